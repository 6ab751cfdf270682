-- The access byte and the size that a bus tells of what a selector names.
use Rattle.std.proofs.Common.{◌≡◌, ℕ, ◌+◌, false, nat_le, Option, Some, None, ap, ◌∙◌, refl}
use Rattle.std.specs.Prelude.{option_map}
use Rattle.o2_isa.specs.View.{View, Hold, is_writable, shown_rights, rights_or_gate}
use Rattle.o2_isa.proofs.Rights.{writable_shown}
use Rattle.o2_world.specs.Slots.{is_for_writing}
use Rattle.o2_gate.specs.Pointed.{lies_within}

pub rights_tell : (o : Option Hold) (g : Option ℕ) (a : ℕ) → Some a ≡ rights_or_gate o g → is_writable a ≡ is_for_writing o
rights_tell (Some h) g a e = let same : a ≡ shown_rights h.rights = cc in ap is_writable same ∙ writable_shown h.rights
rights_tell None (Some k) a e = let same : a ≡ 228 = cc in ap is_writable same
rights_tell None None a e = absurd (cc)

pub no_rights : (o : Option Hold) (g : Option ℕ) → None ≡ rights_or_gate o g → false ≡ is_for_writing o
no_rights (Some h) g e = absurd (cc)
no_rights None g e = refl

pub size_tells : (v : View) (o : Option Hold) (offset count size : ℕ) → Some size ≡ option_map (λ (h : Hold). v.size h.name) o → nat_le (offset + count) size ≡ lies_within v offset count o
size_tells v None offset count size e = absurd (cc)
size_tells v (Some h) offset count size e = let same : size ≡ v.size h.name = cc in ap (nat_le (offset + count)) same

pub no_size : (v : View) (o : Option Hold) (offset count : ℕ) → None ≡ option_map (λ (h : Hold). v.size h.name) o → false ≡ lies_within v offset count o
no_size v None offset count e = refl
no_size v (Some h) offset count e = absurd (cc)
