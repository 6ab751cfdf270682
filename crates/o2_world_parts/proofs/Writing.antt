-- Writes, one after the other.
use Rattle.std.proofs.Common.{◌≡◌, ℕ, Bool, zero, suc, ◌+◌, ◌<◌, List, [], ◌∷◌, ◌++◌, Option, Some, None, length, map, take, get_or, refl, ap, sym, ◌∙◌, arith}
use mathlib.Core.Path.{fun_ext}
use Rattle.std.specs.Prelude.{if◌then◌else◌}
use Rattle.std.proofs.lemmas.List.{map-append, take_more}
use Rattle.o2_isa.specs.View.{Hold, bound_in}
use Rattle.o2_isa.specs.Parts.{put_part}
use Rattle.o2_isa.specs.Pointers.{put_at_pointer, put_in}
use Rattle.o2_world.specs.World.{Segment}
use Rattle.o2_world.specs.Map.{Map}
use Rattle.o2_world.specs.Slots.{Pointer, put_all}
use Rattle.o2_world.specs.Views.{with_bytes}
use Rattle.o2_world_parts.specs.Effects.{is_behind, written}
use Rattle.o2_world_parts.specs.Layouts.{where_to}

put_by : (bytes : ℕ → List ℕ) (offset : ℕ) (part : List ℕ) (h : Option Hold) (n : ℕ) → put_in bytes offset part h n ≡ (if is_behind h n then put_part (bytes n) offset part else bytes n)
put_by bytes offset part None n = refl
put_by bytes offset part (Some h) n = refl

pub written-push : (held : ℕ → Option Hold) (ts : List (ℕ × ℕ)) (ps : List (List ℕ)) (t : ℕ × ℕ) (p : List ℕ) (bytes : ℕ → List ℕ) (n : ℕ) → length ts ≡ length ps
    → written held (ts ++ t ∷ []) (ps ++ p ∷ []) bytes n ≡ (if is_behind (bound_in held t.0) n then put_part (written held ts ps bytes n) t.1 p else written held ts ps bytes n)
unfolding put_at_pointer
written-push held [] [] t p bytes n e = put_by bytes t.1 p (bound_in held t.0) n
written-push held [] (q ∷ ps) t p bytes n e = absurd (omega (arith, e))
written-push held (u ∷ ts) [] t p bytes n e = absurd (omega (arith, e))
written-push held (u ∷ ts) (q ∷ ps) t p bytes n e = written-push held ts ps t p (put_at_pointer held bytes u.0 u.1 q) n (omega (arith, e))

length_take : {X : Type 0} (xs : List X) (k : ℕ) → k < length xs → length (take k xs) ≡ k
length_take {X} [] k h = absurd (omega (arith, h))
length_take {X} (x ∷ xs) zero h = refl
length_take {X} (x ∷ xs) (suc k) h = ap suc (length_take xs k (omega (arith, h)))

pub written_more : (held : ℕ → Option Hold) (ts : List (ℕ × ℕ)) (ps : List (List ℕ)) (bytes : ℕ → List ℕ) (n k : ℕ) (t : ℕ × ℕ) (p : List ℕ) → k < length ts → k < length ps → t ≡ get_or ts k t → p ≡ get_or ps k p
    → written held (take (k + 1) ts) (take (k + 1) ps) bytes n
    ≡ (if is_behind (bound_in held t.0) n then put_part (written held (take k ts) (take k ps) bytes n) t.1 p else written held (take k ts) (take k ps) bytes n)
written_more held ts ps bytes n k t p h g at is =
    ap (λ l. written held l (take (k + 1) ps) bytes n) (take_more ts k t h ∙ ap (λ x. take k ts ++ x ∷ []) (sym at))
    ∙ (ap (λ l. written held (take k ts ++ t ∷ []) l bytes n) (take_more ps k p g ∙ ap (λ x. take k ps ++ x ∷ []) (sym is))
    ∙ written-push held (take k ts) (take k ps) t p bytes n (length_take ts k h ∙ sym (length_take ps k g)))

-- as many as the shorter list has
pub written_min : (held : ℕ → Option Hold) (ts : List (ℕ × ℕ)) (ps : List (List ℕ)) (bytes : ℕ → List ℕ) (n k : ℕ) → (k < length ts → k < length ps → ⊥) → written held (take k ts) (take k ps) bytes n ≡ written held ts ps bytes n
written_min held [] [] bytes n zero h = refl
written_min held [] (p ∷ ps) bytes n zero h = refl
written_min held [] [] bytes n (suc k) h = refl
written_min held [] (p ∷ ps) bytes n (suc k) h = refl
written_min held (t ∷ ts) [] bytes n zero h = refl
written_min held (t ∷ ts) [] bytes n (suc k) h = refl
written_min held (t ∷ ts) (p ∷ ps) bytes n zero h = absurd (h (omega arith) (omega arith))
written_min held (t ∷ ts) (p ∷ ps) bytes n (suc k) h = written_min held ts ps (put_at_pointer held bytes t.0 t.1 p) n k (λ a b. h (omega (arith, a)) (omega (arith, b)))

pub get_same : {X : Type 0} (xs : List X) (k : ℕ) (d e : X) → k < length xs → get_or xs k d ≡ get_or xs k e
get_same {X} [] k d e h = absurd (omega (arith, h))
get_same {X} (x ∷ xs) zero d e h = refl
get_same {X} (x ∷ xs) (suc k) d e h = get_same xs k d e (omega (arith, h))

-- a part more, as a loop writes it
pub behind_more : (held : ℕ → Option Hold) (ts : List (ℕ × ℕ)) (ps : List (List ℕ)) (bytes : ℕ → List ℕ) (n k : ℕ) (t : ℕ × ℕ) (p old new : List ℕ) (behind : Bool) → k < length ts → k < length ps → t ≡ get_or ts k t → p ≡ get_or ps k p
    → old ≡ written held (take k ts) (take k ps) bytes n → behind ≡ is_behind (bound_in held t.0) n
    → new ≡ (if behind then put_part old t.1 p else old) → new ≡ written held (take (k + 1) ts) (take (k + 1) ps) bytes n
behind_more held ts ps bytes n k t p old new behind h g at is o b e =
    e
    ∙ (ap (λ (c : Bool). if c then put_part old t.1 p else old) b
    ∙ (ap (λ (xs : List ℕ). if is_behind (bound_in held t.0) n then put_part xs t.1 p else xs) o
    ∙ sym (written_more held ts ps bytes n k t p h g at is)))

-- what is put by the definitions
pub put_is : (held : ℕ → Option Hold) (ts : List Pointer) (ps : List (List ℕ)) (bytes : ℕ → List ℕ) → written held (map where_to ts) ps bytes ≡ put_all held ts ps bytes
put_is held [] ps bytes = fun_ext (λ n. refl)
put_is held (t ∷ ts) [] bytes = fun_ext (λ n. refl)
put_is held (t ∷ ts) (p ∷ ps) bytes = put_is held ts ps (put_at_pointer held bytes t.selector t.offset p)

pub put_nothing : (held : ℕ → Option Hold) (ts : List Pointer) (bytes : ℕ → List ℕ) → put_all held ts [] bytes ≡ bytes
put_nothing held [] bytes = refl
put_nothing held (t ∷ ts) bytes = refl

pub with_bytes_more : (names : Map Segment) (bytes : ℕ → List ℕ) (k : ℕ) (e : ℕ × Segment) → k < length names → e ≡ get_or names k e
    → with_bytes (take (k + 1) names) bytes ≡ with_bytes (take k names) bytes ++ (e.0, record e.1 { bytes = bytes e.0 }) ∷ []
with_bytes_more names bytes k e h at =
    ap (λ l. with_bytes l bytes) (take_more names k e h)
    ∙ (ap (λ x. with_bytes (take k names ++ x ∷ []) bytes) (sym at)
    ∙ map-append (λ (p : ℕ × Segment). (p.0, record p.1 { bytes = bytes p.0 })) (take k names) (e ∷ []))

pub ruleset rewriting = with_bytes_more
