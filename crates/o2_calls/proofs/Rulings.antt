-- What the rulings of the calls on segments come to.
use Rattle.std.proofs.Common.{◌≡◌, ℕ, ◌/◌, ◌||◌, Bool, true, false, cond, [], Option, Some, None, if◌then◌else◌, refl, sym, ◌∙◌, arith}
use Rattle.o2_isa.specs.declared.cpu.Cpu.{Cpu}
use Rattle.o2_isa.specs.View.{is_local}
use Rattle.o2_regions.specs.Maps.{Maps, IsProcess}
use Rattle.o2_world.specs.World.{Cause, Held, ByLoad, ByCall, ByAlias}
use Rattle.o2_world.specs.Known.{Known, Marks}
use Rattle.o2_world.specs.Rulings.{by_load, freeing, freeing_of, freeing_with, held_under, is_later, members, refusal, sizing, sizing_of, sizing_with}
use Rattle.o2_gate.specs.declared.requests.SegmentArguments.{SegmentArguments}
use Rattle.o2_gate.specs.declared.requests.SegmentArguments.TheVariants.{Alloc, Realloc, Free, Size, Lock, Unlock, Alias, Shared, Huge}
use Rattle.o2_stands.specs.Knows.{KnowsAs}
use Rattle.o2_stands.specs.Stands.{is_by_load}
use Rattle.o2_stands.proofs.Ruled.{same_aliasing, same_allocation, same_freeing, same_freeing_cpu, same_locking, same_reallocation, same_sizing, same_unlocking}
use Rattle.o2_calls.specs.Acts.{cpu_of, ruling_of}
use Rattle.o2_calls.proofs.RunsOver.{same_huge, same_huge_cpu}
use Rattle.o2_calls.proofs.SharedOver.{same_shared}

-- They go by what is known.

module _ (m : Maps) (k l : Known) (same : KnowsAs m k l) (n : ℕ) (process : IsProcess m n) (c : Cpu) where
  pub same_ruling : (a : SegmentArguments) → ruling_of a k n c ≡ ruling_of a l n c
  same_ruling (Alloc size flags) = same_allocation m k l same n size flags process
  same_ruling (Realloc size selector) = same_reallocation m k l same n size selector
  same_ruling (Free selector) = same_freeing m k l same n selector c
  same_ruling (Size selector) = same_sizing m k l same n selector
  same_ruling (Lock selector) = same_locking m k l same n selector
  same_ruling (Unlock selector) = same_unlocking m k l same n selector
  same_ruling (Alias selector) = same_aliasing m k l same n selector process
  same_ruling (Shared a) = same_shared m k l same a n c
  same_ruling (Huge a) = same_huge m k l same a n c process

  pub same_cpu : (a : SegmentArguments) → cpu_of a k n c ≡ cpu_of a l n c
  same_cpu (Alloc size flags) = refl
  same_cpu (Realloc size selector) = refl
  same_cpu (Free selector) = same_freeing_cpu m k l same n selector c
  same_cpu (Size selector) = refl
  same_cpu (Lock selector) = refl
  same_cpu (Unlock selector) = refl
  same_cpu (Alias selector) = refl
  same_cpu (Shared a) = refl
  same_cpu (Huge a) = same_huge_cpu m k l same a n c

-- A size is told without a change.

marks_still : (o : Option Marks) → (sizing_with o).changes ≡ []
marks_still None = refl
marks_still (Some m) = refl

held_still : (k : Known) (o : Option Held) → (sizing_of k o).changes ≡ []
held_still k None = refl
held_still k (Some h) = marks_still (k.segment h.name)

pub sizing_still : (k : Known) (n s : ℕ) → (sizing k n s).changes ≡ []
sizing_still k n s = held_still k (held_under k n s)

-- What is freed is held, and didn't come with a module.

pub record IsFreed (k : Known) (n s : ℕ) : Type 0 where
  pub held : Held
  pub there : k.held n (s / 8) ≡ Some held
  pub called : is_by_load held.cause ≡ false

same_load : (c : Cause) → by_load c ≡ is_by_load c
same_load ByLoad = refl
same_load ByCall = refl
same_load ByAlias = refl

five : ◌≡◌ {A = ℕ} 5 0 → ⊥
five e = omega (arith, e)

freed_held : (k : Known) (n s : ℕ) (c : Cpu) (o : Option Held) → held_under k n s ≡ o → (freeing_of k n s c o).error ≡ 0 → IsFreed k n s
freed_held k n s c None e zero = absurd (five zero)
freed_held k n s c (Some h) e zero = go (by_load h.cause) refl zero
  where
    under : (b : Bool) → (if b then k.held n (s / 8) else None) ≡ Some h → k.held n (s / 8) ≡ Some h
    under true f = f
    under false f = absurd (cc)

    go : (b : Bool) → by_load h.cause ≡ b → (cond (b || is_later (s / 8) h) (refusal 5) (freeing_with n c (members k n (s / 8) h))).error ≡ 0 → IsFreed k n s
    go true is z = absurd (five z)
    go false is z = record { held = h; there = under (is_local s) e; called = sym (same_load h.cause) ∙ is }

pub is_freed : (k : Known) (n s : ℕ) (c : Cpu) → (freeing k n s c).error ≡ 0 → IsFreed k n s
is_freed k n s c zero = freed_held k n s c (held_under k n s) refl zero
