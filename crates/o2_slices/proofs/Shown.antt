-- Segment registers whose hidden parts are of what is in memory name what is in memory.
use Rattle.std.proofs.Common.{◌≡◌, ℕ, ◌&&◌, Bool, true, false, cond, Option, Some, None, refl}
use Rattle.std.proofs.lemmas.Bool.{false≢true}
use Rattle.o2_desc.specs.declared.descriptor.Descriptor.{Descriptor}
use Rattle.o2_desc.specs.Bits.{is_present}
use Rattle.o2_desc.specs.Bytes.{empty}
use Rattle.o2_isa.specs.declared.cpu.Cpu.{Cpu}
use Rattle.o2_isa.specs.View.{is_null}
use Rattle.o2_regions.specs.Maps.{Maps}
use Rattle.o2_segbus.specs.Opening.{are_shown, is_shown, opened_register, opened_registers}
use Rattle.o2_segbus.specs.Words.{named_descriptor, or_empty}
use Rattle.o2_stepping.specs.Here.{are_here, is_here, is_none_or_here}

by_cases : (a : Bool) (o : Option Descriptor) → cond a true (is_present (cond a empty (or_empty o)).access) ≡ true → cond a true (is_none_or_here o) ≡ true
by_cases true o h = refl
by_cases false None h = refl
by_cases false (Some d) h = h

both : (a b w x : Bool) → (a ≡ true → w ≡ true) → (b ≡ true → x ≡ true) → (a && b) ≡ true → (w && x) ≡ true
both true true w x f g e = rw (f refl, g refl) refl
both true false w x f g e = absurd (false≢true e)
both false b w x f g e = absurd (false≢true e)

module _ (m : Maps) (pid : ℕ) where
  one_here : (s : ℕ) → is_shown (opened_register m pid s) ≡ true → is_here m pid s ≡ true
  one_here s h = by_cases (is_null s) (named_descriptor m pid s) h

  pub shown_here : (c : Cpu) → are_shown (opened_registers m pid c) ≡ true → are_here m pid c ≡ true
  shown_here c e =
      both _ (is_shown (opened_register m pid c.ds)) _ (is_here m pid c.ds)
      (both _ (is_shown (opened_register m pid c.ss)) _ (is_here m pid c.ss)
      (both (is_shown (opened_register m pid c.es)) (is_shown (opened_register m pid c.cs)) (is_here m pid c.es) (is_here m pid c.cs) (one_here c.es) (one_here c.cs))
      (one_here c.ss)) (one_here c.ds) e
