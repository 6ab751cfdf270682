-- What is noted of each call has the lines of what the call changes.
use Rattle.std.proofs.Common.{◌≡◌, ℕ, ◌/◌, ◌==◌, Bool, true, false, cond, List, [], length, Some, refl, sym, ap, ◌∙◌, subst, arith}
use Rattle.std.specs.List.{list_any}
use Rattle.o2_isa.specs.declared.cpu.Cpu.{Cpu}
use Rattle.o2_regions.specs.declared.answer.Answer.{Answer}
use Rattle.o2_regions.specs.declared.answer.Roomed.TheVariants.{Done}
use Rattle.o2_regions.specs.Maps.{Maps, IsProcess}
use Rattle.o2_world.specs.Changes.{Change, swept, takes, with_all, with_changes}
use Rattle.o2_world.specs.Holders.{process_at}
use Rattle.o2_world.specs.Known.{Known, held_at as world_held, known_of}
use Rattle.o2_world.specs.Rulings.{Ruling, full_size, held_under}
use Rattle.o2_world.specs.SharedNames.{name_by}
use Rattle.o2_world.specs.World.{Process, Setting, World}
use Rattle.o2_gate.specs.declared.requests.SegmentArguments.{SegmentArguments}
use Rattle.o2_gate.specs.declared.requests.SegmentArguments.TheVariants.{Alloc, Realloc, Free, Size, Lock, Unlock, Alias, Shared, Huge}
use Rattle.o2_gate.specs.declared.requests.HugeArguments.TheVariants as huge
use Rattle.o2_gate.specs.declared.moves.Block.{Block}
use Rattle.o2_gate.specs.declared.requests.SharedArguments.TheVariants as shared
use Rattle.o2_gate.specs.Texts.{text_of}
use Rattle.o2_stands.specs.Knows.{Others, known_in, others_of}
use Rattle.o2_stands.specs.Parts.{Parts, held_in}
use Rattle.o2_stands.specs.Runs.{AreFull, AreRuns}
use Rattle.o2_stands.specs.Stands.{AreLawful, IsSetTo, Matches, Stands}
use Rattle.o2_stands.proofs.Knowing.{known_is}
use Rattle.o2_stands.proofs.Matching.{matched_by}
use Rattle.o2_stands.proofs.RunsSeen.{full_seen, runs_seen}
use Rattle.o2_segs.specs.Answers.{Answers}
use Rattle.o2_calls.specs.Acts.{ruling_of}
use Rattle.o2_calls.specs.Noted.{AreTold, blocks_of, counted_by, in_table, noted}
use Rattle.o2_calls.proofs.NotedCalls.{alias_told, alloc_told, huge_told, lock_told, name_told, realloc_told, share_told, shift_told, size_told, unlock_told}
use Rattle.o2_calls.proofs.NotedLines.{Tells, told_nothing}
use Rattle.o2_calls.proofs.NotedMaps.{all_in_table}
use Rattle.o2_calls.proofs.NotedGets.{get_told}
use Rattle.o2_calls.proofs.NotedRuns.{free_told, give_told}
use Rattle.o2_calls.proofs.NotedSized.{sized_told}
use Rattle.o2_calls.proofs.Refusing.{ruling_refuses}
use Rattle.o2_calls.proofs.Rulings.{same_ruling}

-- what processes hold behind changes is the same before what nobody holds is gone
all_held : (w : World) (cs : List Change) (q i : ℕ) → world_held (with_all w cs).processes q i ≡ world_held (with_changes w cs).processes q i
all_held w cs q i = go (list_any takes cs)
  where
    go : (b : Bool) → world_held (cond b (swept (with_changes w cs)) (with_changes w cs)).processes q i ≡ world_held (with_changes w cs).processes q i
    go true = refl
    go false = refl

module _ (p : Parts) (n : Maps) (s : Setting) (w : World) (x : Process) (pid : ℕ) (c : Cpu) (lawful : AreLawful p.shelf p.maps) (set : IsSetTo p s) (stands : Stands p w)
    (process : IsProcess p.maps pid) (total : length w.processes ≡ p.maps.processes) (still : n.processes ≡ p.maps.processes) (at : process_at w.processes pid ≡ Some x) where
  abbrev o : Others
  o = others_of s w

  abbrev k : Known
  k = known_in p o

  runs : AreRuns p.maps
  runs = runs_seen p w.processes w.names w.next_name w.reserved lawful.maps (matched_by p w.processes w.names w.next_name w.reserved stands) stands.tidy

  full : AreFull p.shelf p.maps
  full = full_seen p w.processes w.names w.next_name w.reserved lawful.maps (matched_by p w.processes w.names w.next_name w.reserved stands) stands.tidy

  abbrev IsAfter : Ruling → Type 0
  IsAfter r = (q j : ℕ) → world_held (with_changes w r.changes).processes q j ≡ held_in n q j

  tells : (cause : List ℕ) (a : SegmentArguments) → IsAfter (ruling_of a k pid c) → Tells cause (blocks_of a pid (counted_by a p.maps pid) n) (ruling_of a k pid c)
  tells cause (Alloc size flags) after = alloc_told cause k pid size flags
  tells cause (Realloc size selector) after = realloc_told cause k pid (full_size size) (held_under k pid selector)
  tells cause (Free selector) after = free_told cause p o pid runs selector c
  tells cause (Size selector) after = size_told cause k pid (held_under k pid selector)
  tells cause (Lock selector) after = lock_told cause k pid (held_under k pid selector)
  tells cause (Unlock selector) after = unlock_told cause k pid (held_under k pid selector)
  tells cause (Alias selector) after = alias_told cause k pid (selector / 8) (held_under k pid selector)
  tells cause (Shared (shared.Name size text)) after = name_told cause k pid size (name_by (text_of text))
  tells cause (Shared (shared.Share text)) after = share_told cause k pid (name_by (text_of text))
  tells cause (Shared (shared.Give selector to)) after = give_told cause p o pid runs selector to
  tells cause (Shared (shared.Get selector)) after = get_told cause p o pid runs n w x at stands.held selector (λ j. after pid j)
  tells cause (Huge (huge.Alloc segs part most flags)) after = huge_told cause k pid segs part most flags
  tells cause (Huge (huge.Realloc segs part selector)) after =
      sized_told cause p o pid runs full total lawful.maps stands.ready.named process n w stands.held still segs part selector c after
  tells cause (Huge huge.Shift) after = shift_told cause k pid

  noted_in : (cause : List ℕ) (a : SegmentArguments) (answer : Answer) → IsAfter (ruling_of a k pid c) → Answers (ruling_of a k pid c) answer
      → AreTold cause (noted a pid (counted_by a p.maps pid) n (Done answer)) (ruling_of a k pid c).changes
  noted_in cause a answer after answers = go (answer.error == 0) refl
    where
      number : (e : ℕ) → (e == 0) ≡ true → e ≡ 0
      number e is = grind arith

      not_number : (e : ℕ) → (e == 0) ≡ false → e ≡ 0 → ⊥
      not_number e is same = grind arith

      done : answer.error ≡ 0 → AreTold cause (blocks_of a pid (counted_by a p.maps pid) n answer.value) (ruling_of a k pid c).changes
      done zero =
          subst (λ (v : ℕ). AreTold cause (blocks_of a pid (counted_by a p.maps pid) n v) (ruling_of a k pid c).changes) (sym answers.value)
          ((tells cause a after).told (sym answers.error ∙ zero))

      go : (b : Bool) → (answer.error == 0) ≡ b → AreTold cause (cond b (in_table (blocks_of a pid (counted_by a p.maps pid) n answer.value)) []) (ruling_of a k pid c).changes
      go true is =
          let told = done (number answer.error is) in
          subst (λ (bs : List Block). AreTold cause bs (ruling_of a k pid c).changes) (sym (all_in_table (blocks_of a pid (counted_by a p.maps pid) n answer.value) told.inside)) told
      go false is =
          subst (AreTold cause []) (sym ((ruling_refuses k pid a c).none (λ zero. not_number answer.error is (answers.error ∙ zero)))) (told_nothing cause [] refl refl)

  ruling_is : (a : SegmentArguments) → ruling_of a (known_of s w) pid c ≡ ruling_of a k pid c
  ruling_is a = same_ruling p.maps (known_of s w) k (known_is p s w lawful set stands) pid process c a

  pub all_noted : (cause : List ℕ) (a : SegmentArguments) (answer : Answer) (q : Parts) → q.maps ≡ n → Matches q (with_all w (ruling_of a (known_of s w) pid c).changes) → Answers (ruling_of a (known_of s w) pid c) answer
      → AreTold cause (noted a pid (counted_by a p.maps pid) n (Done answer)) (ruling_of a (known_of s w) pid c).changes
  all_noted cause a answer q same matches answers =
      subst (λ (r : Ruling). AreTold cause (noted a pid (counted_by a p.maps pid) n (Done answer)) r.changes) (sym (ruling_is a))
      (noted_in cause a answer after (subst (λ (r : Ruling). Answers r answer) (ruling_is a) answers))
    where
      after : IsAfter (ruling_of a k pid c)
      after i j =
          sym (all_held w (ruling_of a k pid c).changes i j)
          ∙ (ap (λ (r : Ruling). world_held (with_all w r.changes).processes i j) (sym (ruling_is a))
          ∙ (matches.held i j ∙ ap (λ (m : Maps). held_in m i j) same))
