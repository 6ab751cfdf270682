-- A call that comes to an error changes nothing.
use Rattle.std.proofs.Common.{◌≡◌, ◌≢◌, ℕ, ◌+◌, ◌-◌, ◌/◌, ◌==◌, ◌&&◌, ◌||◌, nat_le, nat_lt, not, Bool, true, false, cond, List, [], length, Option, Some, None, refl}
use Rattle.std.specs.Prelude.{drop, is_some, max}
use Rattle.o2_isa.specs.declared.cpu.Cpu.{Cpu}
use Rattle.o2_isa.specs.View.{is_local}
use Rattle.o2_desc.specs.Bits.{is_writable}
use Rattle.o2_world.specs.World.{Held}
use Rattle.o2_world.specs.HugeRulings.{all_bytes, bytes_of, free_run, huge_allocation, huge_at, huge_reallocation_of, is_first, is_huge_fault, left_in_run, run_resized, segments_of}
use Rattle.o2_world.specs.Known.{Known, Marks}
use Rattle.o2_world.specs.Rulings.{Ruling, aliasing_at, aliasing_of, allocation, allocation_at, by_load, free_index, freeing_of, full_size, held_under, in_use, is_alias}
use Rattle.o2_world.specs.Rulings.{is_discardable, is_in_run, is_later, keeps_its_size, locking_of, locking_with, members, reallocation_of, reallocation_with, region_by}
use Rattle.o2_world.specs.Rulings.{sizing_of, sizing_with, unlocking_of, unlocking_with}
use Rattle.o2_world.specs.SharedNames.{name_by}
use Rattle.o2_world.specs.SharedRulings.{getting_at, getting_from, giving_of, holder, index_of, lacks_flag, naming, naming_at, shared_from, sharing, sharing_at, sharing_from, sharing_of}
use Rattle.o2_gate.specs.declared.requests.SegmentArguments.{SegmentArguments}
use Rattle.o2_gate.specs.declared.requests.SegmentArguments.TheVariants.{Alloc, Realloc, Free, Size, Lock, Unlock, Alias, Shared, Huge}
use Rattle.o2_gate.specs.declared.requests.HugeArguments.{HugeArguments}
use Rattle.o2_gate.specs.declared.requests.HugeArguments.TheVariants as huge
use Rattle.o2_gate.specs.declared.requests.SharedArguments.{SharedArguments}
use Rattle.o2_gate.specs.declared.requests.SharedArguments.TheVariants as shared
use Rattle.o2_gate.specs.Texts.{text_of}
use Rattle.o2_calls.specs.Acts.{ruling_of}
use Rattle.o2_calls.specs.HugeActs.{huge_ruling}
use Rattle.o2_calls.specs.SharedActs.{shared_ruling}

pub record Refuses (r : Ruling) : Type 0 where
  pub none : r.error ≢ 0 → r.changes ≡ []

either : (b : Bool) (r q : Ruling) → Refuses r → Refuses q → Refuses (cond b r q)
either true r q h k = h
either false r q h k = k

nothing : (r : Ruling) → r.changes ≡ [] → Refuses r
nothing r e = record { none = λ some. e }

quiet : (r : Ruling) → r.error ≡ 0 → Refuses r
quiet r e = record { none = λ some. absurd (some e) }

module _ (k : Known) (n : ℕ) where
  alloc_at : (size flags : ℕ) (o : Option ℕ) → Refuses (allocation_at k n size flags o)
  alloc_at size flags None = nothing _ refl
  alloc_at size flags (Some i) = quiet _ refl

  allocs : (size flags : ℕ) → Refuses (allocation k n size flags)
  allocs size flags = either (nat_lt 15 flags) _ _ (nothing _ refl) (either (nat_le k.most k.count) _ _ (nothing _ refl) (alloc_at size flags (free_index k (region_by n flags))))

  resizes : (name size : ℕ) (o : Option Marks) → Refuses (reallocation_with name size o)
  resizes name size None = nothing _ refl
  resizes name size (Some m) = either (keeps_its_size size m) _ _ (nothing _ refl) (quiet _ refl)

  reallocs : (size : ℕ) (o : Option Held) → Refuses (reallocation_of k size o)
  reallocs size None = nothing _ refl
  reallocs size (Some h) = either (is_alias h.cause || is_in_run h) _ _ (nothing _ refl) (resizes h.name size (k.segment h.name))

  frees : (s : ℕ) (c : Cpu) (o : Option Held) → Refuses (freeing_of k n s c o)
  frees s c None = nothing _ refl
  frees s c (Some h) =
      either (by_load h.cause || is_later (s / 8) h) _ _ (nothing _ refl)
      (either (in_use c (members k n (s / 8) h)) _ _ (nothing _ refl) (quiet _ refl))

  sizes_with : (o : Option Marks) → Refuses (sizing_with o)
  sizes_with None = nothing _ refl
  sizes_with (Some m) = quiet _ refl

  sizes : (o : Option Held) → Refuses (sizing_of k o)
  sizes None = nothing _ refl
  sizes (Some h) = sizes_with (k.segment h.name)

  locks_with : (name : ℕ) (o : Option Marks) → Refuses (locking_with name o)
  locks_with name None = nothing _ refl
  locks_with name (Some m) = either (is_discardable m) _ _ (either m.discarded _ _ (nothing _ refl) (quiet _ refl)) (nothing _ refl)

  locks : (o : Option Held) → Refuses (locking_of k o)
  locks None = nothing _ refl
  locks (Some h) = locks_with h.name (k.segment h.name)

  unlocks_with : (name : ℕ) (o : Option Marks) → Refuses (unlocking_with name o)
  unlocks_with name None = nothing _ refl
  unlocks_with name (Some m) = either (is_discardable m) _ _ (either (m.lock == 0) _ _ (nothing _ refl) (quiet _ refl)) (nothing _ refl)

  unlocks : (o : Option Held) → Refuses (unlocking_of k o)
  unlocks None = nothing _ refl
  unlocks (Some h) = unlocks_with h.name (k.segment h.name)

  alias_at : (name : ℕ) (o : Option ℕ) → Refuses (aliasing_at n name o)
  alias_at name None = nothing _ refl
  alias_at name (Some i) = quiet _ refl

  aliases : (i : ℕ) (o : Option Held) → Refuses (aliasing_of k n i o)
  aliases i None = nothing _ refl
  aliases i (Some h) = either (nat_le 4096 i || (not (is_writable h.rights) || is_in_run h)) _ _ (nothing _ refl) (alias_at h.name (free_index k n))

  -- those that share

  name_at : (size : ℕ) (name : List ℕ) (o : Option ℕ) → Refuses (naming_at k n size name o)
  name_at size name None = nothing _ refl
  name_at size name (Some i) = quiet _ refl

  names : (size : ℕ) (o : Option (List ℕ)) → Refuses (naming k n size o)
  names size None = nothing _ refl
  names size (Some name) = either (is_some (k.text name)) _ _ (nothing _ refl) (either (nat_le k.most k.count) _ _ (nothing _ refl) (name_at size name (free_index k 0)))

  share_from : (i : ℕ) (o : Option ℕ) → Refuses (sharing_from k n i o)
  share_from i None = nothing _ refl
  share_from i (Some from) = quiet _ refl

  share_at : (o : Option ℕ) → Refuses (sharing_at k n o)
  share_at None = nothing _ refl
  share_at (Some i) = share_from i (holder k i)

  share_of : (o : Option ℕ) → Refuses (sharing_of k n o)
  share_of None = nothing _ refl
  share_of (Some q) = share_at (index_of k q)

  shares : (o : Option (List ℕ)) → Refuses (sharing k n o)
  shares None = nothing _ refl
  shares (Some name) = share_of (k.text name)

  gives : (i pid : ℕ) (o : Option Held) → Refuses (giving_of k n i pid o)
  gives i pid None = nothing _ refl
  gives i pid (Some h) =
      either (is_later i h || lacks_flag k 0 n (members k n i h)) _ _ (nothing _ refl) (either (k.lives pid) _ _ (quiet _ refl) (nothing _ refl))

  got_from : (i from : ℕ) (o : Option Held) → Refuses (getting_from k n i from o)
  got_from i from None = nothing _ refl
  got_from i from (Some h) = either (is_later i h || lacks_flag k 1 from (members k from i h)) _ _ (nothing _ refl) (quiet _ refl)

  got_at : (i : ℕ) (o : Option ℕ) → Refuses (getting_at k n i o)
  got_at i None = nothing _ refl
  got_at i (Some from) = got_from i from (k.held from i)

  shared_refuses : (a : SharedArguments) (c : Cpu) → Refuses (shared_ruling a k n c)
  shared_refuses (shared.Name size t) c = names size (name_by (text_of t))
  shared_refuses (shared.Share t) c = shares (name_by (text_of t))
  shared_refuses (shared.Give s pid) c = gives (s / 8) pid (held_under k n s)
  shared_refuses (shared.Get s) c = either (is_local s) _ _ (got_at (s / 8) (holder k (s / 8))) (nothing _ refl)

  -- those on huge allocations

  run_at : (segs part count flags : ℕ) (o : Option ℕ) → Refuses (huge_at k n segs part count flags o)
  run_at segs part count flags None = nothing _ refl
  run_at segs part count flags (Some i) = quiet _ refl

  runs : (segs part most flags : ℕ) → Refuses (huge_allocation k n segs part most flags)
  runs segs part most flags =
      let m = segments_of segs part in
      either (is_huge_fault m most flags) _ _ (nothing _ refl)
      (either (nat_lt k.most (k.count + m)) _ _ (nothing _ refl) (run_at segs part (max m most) flags (free_run k (region_by n flags) (max m most))))

  run_sized : (segs part : ℕ) (c : Cpu) (h : Held) (is : List ℕ) → Refuses (run_resized k n segs part c h is)
  run_sized segs part c h is =
      let m = segments_of segs part in
      either (m == 0) _ _ (nothing _ refl)
      (either (nat_lt h.reserved m) _ _ (nothing _ refl)
      (either ((nat_le shared_from h.first && nat_lt (bytes_of segs part) (all_bytes k n is)) || in_use c (drop m is)) _ _ (nothing _ refl)
      (either (nat_lt k.most (k.count + (m - length is)) || nat_lt (length is + length (left_in_run k n h)) m) _ _ (nothing _ refl) (quiet _ refl))))

  run_of : (i segs part : ℕ) (c : Cpu) (o : Option Held) → Refuses (huge_reallocation_of k n i segs part c o)
  run_of i segs part c None = nothing _ refl
  run_of i segs part c (Some h) = either (is_first i h) _ _ (run_sized segs part c h (members k n i h)) (nothing _ refl)

  huge_refuses : (a : HugeArguments) (c : Cpu) → Refuses (huge_ruling a k n c)
  huge_refuses (huge.Alloc segs part most flags) c = runs segs part most flags
  huge_refuses (huge.Realloc segs part s) c = run_of (s / 8) segs part c (held_under k n s)
  huge_refuses huge.Shift c = quiet _ refl

  pub ruling_refuses : (a : SegmentArguments) (c : Cpu) → Refuses (ruling_of a k n c)
  ruling_refuses (Alloc size flags) c = allocs size flags
  ruling_refuses (Realloc size s) c = reallocs (full_size size) (held_under k n s)
  ruling_refuses (Free s) c = frees s c (held_under k n s)
  ruling_refuses (Size s) c = sizes (held_under k n s)
  ruling_refuses (Lock s) c = locks (held_under k n s)
  ruling_refuses (Unlock s) c = unlocks (held_under k n s)
  ruling_refuses (Alias s) c = aliases (s / 8) (held_under k n s)
  ruling_refuses (Shared a) c = shared_refuses a c
  ruling_refuses (Huge a) c = huge_refuses a c
