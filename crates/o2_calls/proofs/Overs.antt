-- A machine that stands for a world, before and behind a call.
use Rattle.std.proofs.Common.{◌≡◌, inr, ℕ, ◌/◌, Bool, false, IsTrue, List, [], Option, Some, None, is_some, refl, sym, ap, ◌∙◌, subst, arith}
use Rattle.o2_image.specs.ImageList.{ImageList}
use Rattle.o2_isa.specs.declared.cpu.Cpu.{Cpu}
use Rattle.o2_place.specs.declared.seg_id.SegId.{SegId}
use Rattle.o2_regions.specs.declared.answer.Answer.{Answer}
use Rattle.o2_regions.specs.declared.answer.Roomed.{Roomed}
use Rattle.o2_regions.specs.declared.answer.Roomed.TheVariants.{Done, NoRoom, SwapFull, SwapFault}
use Rattle.o2_regions.specs.Maps.{Maps, IsProcess}
use Rattle.o2_store.specs.Shelf.{Shelf}
use Rattle.o2_world.specs.Changes.{Change, with_all, with_changes}
use Rattle.o2_world.specs.Holders.{process_at}
use Rattle.o2_world.specs.Known.{Known, held_at, known_of}
use Rattle.o2_world.specs.Map.{get}
use Rattle.o2_world.specs.Rulings.{Ruling, freeing, is_in_run}
use Rattle.o2_world.specs.Tied.{IsTied}
use Rattle.o2_world.specs.World.{Held, Process, Segment, Setting, World}
use Rattle.o2_gate.specs.declared.requests.SegmentArguments.{SegmentArguments}
use Rattle.o2_stands.specs.Knows.{KnowsAs, Others, known_in, others_of}
use Rattle.o2_stands.specs.Moves.{moved}
use Rattle.o2_stands.specs.Parts.{Parts}
use Rattle.o2_stands.specs.Stands.{Matches, is_by_load}
use Rattle.o2_stands.proofs.Knowing.{known_is}
use Rattle.o2_stands.proofs.Matching.{matched_by}
use Rattle.o2_changes.specs.Worlds.{LosesOne}
use Rattle.o2_changes.proofs.Losing.{loses_one}
use Rattle.o2_segs.specs.Answers.{Answers, AnswersRoomed, changes_roomed}
use Rattle.o2_segs.specs.Members.{MayLose}
use Rattle.o2_shared.specs.declared.names.Name.{Name}
use Rattle.o2_calls.specs.Acts.{IsOver, cpu_behind, cpu_of, ruling_of}
use Rattle.o2_calls.specs.CallRows.{IsCallRow}
use Rattle.o2_calls.specs.SharedActs.{LeavesSpelled}
use Rattle.o2_calls.specs.Stops.{LacksRun, LacksRunMemory, LeavesRunHolds}
use Rattle.o2_calls.proofs.Rulings.{is_freed, same_cpu, same_ruling}

-- the next name is none
pub none_next : (w : World) → IsTied w → get w.names w.next_name ≡ None
none_next w tied = go (get w.names w.next_name) refl
  where
    go : (o : Option Segment) → get w.names w.next_name ≡ o → get w.names w.next_name ≡ None
    go None e = e
    go (Some s) e = absurd (let low = tied.below w.next_name (ap is_some e) in omega (arith, low))

nothing : (w : World) → with_all w [] ≡ w
unfolding with_changes
nothing w = refl

-- the registers of a call that changes none, come to what it may
still_registers : (a : SegmentArguments) (k : Known) (n : ℕ) (c : Cpu) (r : Roomed) → cpu_of a k n c ≡ c → c ≡ cpu_behind a k n c r
still_registers a k n c (Done x) same = sym same
still_registers a k n c NoRoom same = refl
still_registers a k n c SwapFull same = refl
still_registers a k n c SwapFault same = refl

module _ (sh : Shelf) (m : Maps) (images : ImageList) (block : ℕ → List ℕ) (p : Parts) (s : Setting) (w : World) (over : IsOver sh m images block p s w) (pid : ℕ) (process : IsProcess m pid) where
  abbrev o : Others
  o = others_of s w

  here : IsProcess p.maps pid
  here = subst (λ (x : Maps). IsProcess x pid) (sym over.regions) process

  known : KnowsAs p.maps (known_of s w) (known_in p o)
  known = known_is p s w over.lawful over.set over.stands

  matches : Matches p w
  matches = matched_by p w.processes w.names w.next_name w.reserved over.stands

  ruling_is : (a : SegmentArguments) (c : Cpu) → ruling_of a (known_in p o) pid c ≡ ruling_of a (known_of s w) pid c
  ruling_is a c = sym (same_ruling p.maps (known_of s w) (known_in p o) known pid here c a)

  pub row_by : (a : SegmentArguments) (c : Cpu) (r : Roomed) → AnswersRoomed (ruling_of a (known_in p o) pid c) r → AnswersRoomed (ruling_of a (known_of s w) pid c) r
  row_by a c r h = subst (λ (x : Ruling). AnswersRoomed x r) (ruling_is a c) h

  cpu_by : (a : SegmentArguments) (c new : Cpu) → new ≡ cpu_of a (known_in p o) pid c → new ≡ cpu_of a (known_of s w) pid c
  cpu_by a c new h = h ∙ sym (same_cpu p.maps (known_of s w) (known_in p o) known pid here c a)

  -- behind it
  pub behind_by : (a : SegmentArguments) (c : Cpu) (r : Roomed) (q : Parts) → Matches q (with_all w (changes_roomed (ruling_of a (known_in p o) pid c) r))
      → Matches q (with_all w (changes_roomed (ruling_of a (known_of s w) pid c) r))
  behind_by a c r q h = subst (λ (x : Ruling). Matches q (with_all w (changes_roomed x r))) (ruling_is a c) h

  -- a call that touches no swap device
  pub unmoved : (t : Shelf) (n : Maps) (u : World) → Matches (record p { shelf = t; maps = n }) u → Matches (moved p t n block) u
  unmoved t n u h = subst (λ (z : ℕ → List ℕ). Matches (moved p t n z) u) over.blocks h

  -- one that changes the store alone
  pub store_only : (t : Shelf) (n : Maps) (u : World) → n ≡ m → Matches (record p { shelf = t }) u → Matches (record p { shelf = t; maps = n }) u
  store_only t n u same h = subst (λ (z : Maps). Matches (record p { shelf = t; maps = z }) u) (over.regions ∙ sym same) h

  -- one that changes nothing
  pub unchanged : (t : Shelf) (n : Maps) (cs : List Change) → t ≡ sh → n ≡ m → cs ≡ [] → Matches (record p { shelf = t; maps = n }) (with_all w cs)
  unchanged t n cs store regions none =
      subst (λ (ds : List Change). Matches (record p { shelf = t; maps = n }) (with_all w ds)) (sym none)
      (subst (Matches (record p { shelf = t; maps = n })) (sym (nothing w)) (store_only t n w regions (subst (λ (z : Shelf). Matches (record p { shelf = z }) w) (over.store ∙ sym store) matches)))

  pub loses : (selector : ℕ) (c : Cpu) → (freeing (known_in p o) pid selector c).error ≡ 0 → MayLose w pid (selector / 8)
  loses selector c zero = record { alone = λ h there alone. one h there alone; run = λ h there run. over.stands.tidy }
    where
      one : (h : Held) → held_at w.processes pid (selector / 8) ≡ Some h → is_in_run h ≡ false → LosesOne w pid (selector / 8)
      one h there alone =
          let f = is_freed (known_in p o) pid selector c zero in
          let z : Some f.held ≡ Some h = sym (over.stands.held pid (selector / 8) ∙ f.there) ∙ there in
          let y : f.held ≡ h = cc in
          loses_one w pid (selector / 8) h (let l = process.0 in omega (arith, l)) over.stands.tidy there alone (ap (λ (x : Held). is_by_load x.cause) (sym y) ∙ f.called)

  -- The row of a call on one segment, from its row over what the parts know. It leaves all names, and of runs nothing is said.

  -- where it may want room, and leaves the registers
  pub roomed_row : {a b : SegmentArguments} {t : Shelf} {n : Maps} {keep : List SegId} {told : Bool} {after : ℕ → List ℕ} {c : Cpu} {names : List (Option Name)} {r : Roomed} {idles : Type 0}
      → a ≡ b → cpu_of b (known_of s w) pid c ≡ c → LeavesSpelled b t names names (with_all w (ruling_of b (known_of s w) pid c).changes)
      → LeavesRunHolds b m n (known_of s w) pid c → LacksRun b sh (known_of s w) pid c keep r → LacksRunMemory b sh (known_of s w) pid c
      → AnswersRoomed (ruling_of b (known_in p o) pid c) r
      → ((x : Process) → IsTrue told → process_at w.processes pid ≡ Some x → IsTied w → Matches p w
      → Matches (moved p t n after) (with_all w (changes_roomed (ruling_of b (known_in p o) pid c) r)))
      → IsCallRow a p s w pid sh t m n keep told after c c names names r idles
  roomed_row {b} {t} {n} {keep} {told} {after} {c} {names} {r} {idles} is still spells holds lacks short answer behind =
      subst (λ (x : SegmentArguments). IsCallRow x p s w pid sh t m n keep told after c c names names r idles) (sym is) (record {
        answer = row_by b c r answer;
        registers = still_registers b (known_of s w) pid c r still;
        matches = λ x read at tied. behind_by b c r (moved p t n after) (behind x read at tied matches);
        spells = spells;
        holds = holds;
        lacks = lacks;
        short = λ none. inr short;
      })

  -- where it is done, and touches no swap device
  pub done_row : {a b : SegmentArguments} {t : Shelf} {n : Maps} {keep : List SegId} {told : Bool} {c d : Cpu} {names : List (Option Name)} {x : Answer} {idles : Type 0}
      → a ≡ b → LeavesSpelled b t names names (with_all w (ruling_of b (known_of s w) pid c).changes)
      → LeavesRunHolds b m n (known_of s w) pid c → LacksRun b sh (known_of s w) pid c keep (Done x) → LacksRunMemory b sh (known_of s w) pid c
      → Answers (ruling_of b (known_in p o) pid c) x → d ≡ cpu_of b (known_in p o) pid c
      → ((y : Process) → process_at w.processes pid ≡ Some y → Matches p w → Matches (record p { shelf = t; maps = n }) (with_all w (ruling_of b (known_in p o) pid c).changes))
      → IsCallRow a p s w pid sh t m n keep told block c d names names (Done x) idles
  done_row {b} {t} {n} {keep} {told} {c} {d} {names} {x} {idles} is spells holds lacks short answer registers behind =
      subst (λ (z : SegmentArguments). IsCallRow z p s w pid sh t m n keep told block c d names names (Done x) idles) (sym is) (record {
        answer = row_by b c (Done x) answer;
        registers = cpu_by b c d registers;
        matches = λ y read at tied.
            behind_by b c (Done x) (moved p t n block) (unmoved t n (with_all w (ruling_of b (known_in p o) pid c).changes) (behind y at matches));
        spells = spells;
        holds = holds;
        lacks = lacks;
        short = λ none. inr short;
      })
