-- A call on a huge allocation over a machine that stands for a world.
use Rattle.std.proofs.Common.{◌≡◌, ℕ, ◌&&◌, ◌||◌, ◌==◌, Bool, true, false, not, length, List, [], ◌∷◌, if◌then◌else◌, refl, sym, ap, ◌∙◌, subst}
use Rattle.o2_image.specs.ImageList.{ImageList}
use Rattle.o2_isa.specs.declared.cpu.Cpu.{Cpu}
use Rattle.o2_place.specs.declared.seg_id.SegId.{SegId}
use Rattle.o2_regions.specs.declared.answer.Roomed.{Roomed}
use Rattle.o2_regions.specs.declared.answer.Roomed.TheVariants.{Done, NoRoom, SwapFull, SwapFault}
use Rattle.o2_regions.specs.Maps.{Maps, IsProcess}
use Rattle.o2_store.specs.Shelf.{Shelf}
use Rattle.o2_world.specs.Changes.{is_used}
use Rattle.o2_world.specs.HugeRulings.{huge_reallocation, without}
use Rattle.o2_world.specs.Known.{Known, known_of}
use Rattle.o2_world.specs.Rulings.{Ruling, dropped_indexes}
use Rattle.o2_world.specs.Tied.{AreUsed}
use Rattle.o2_world.specs.World.{Process, Reserve, Setting, World}
use Rattle.o2_gate.specs.declared.requests.SegmentArguments.TheVariants.{Huge}
use Rattle.o2_gate.specs.declared.requests.HugeArguments.{HugeArguments}
use Rattle.o2_gate.specs.declared.requests.HugeArguments.TheVariants.{Realloc}
use Rattle.o2_stands.specs.Knows.{known_in, others_of}
use Rattle.o2_stands.specs.Parts.{Parts}
use Rattle.o2_stands.specs.Runs.{AreFull, AreRuns}
use Rattle.o2_stands.specs.Stands.{AllStay, IsTidy, Matches, is_placed, region_at}
use Rattle.o2_stands.proofs.Knowing.{known_is}
use Rattle.o2_stands.proofs.Matching.{matched_by}
use Rattle.o2_stands.proofs.RunsSeen.{full_seen, runs_seen}
use Rattle.o2_stands.proofs.RunSteps.{stretch_reserves}
use Rattle.o2_segs.specs.Answers.{changes_roomed}
use Rattle.o2_segs.specs.Limits.{KeepsLimitsBy, made_in}
use Rattle.o2_segs.proofs.Limits.{limits_by}
use Rattle.o2_huge.specs.Cuts.{MayLose}
use Rattle.o2_huge.specs.Frames.{IsKnownBy, StopsFor}
use Rattle.o2_huge.specs.Resized.{is_done}
use Rattle.o2_calls.specs.Acts.{IsOver, cpu_behind, most_made}
use Rattle.o2_calls.specs.HugeActs.{huge_behind, huge_ruling}
use Rattle.o2_calls.specs.Stops.{LacksRun}
use Rattle.o2_calls.proofs.RunsOver.{same_huge}

-- A tidy world may lose members of a run.

different : false ≡ true → ⊥
different e = cc

used_of : (ps : List Process) (rs : List Reserve) → AllStay ps rs → AreUsed ps rs
used_of ps [] all = tt
used_of ps (r ∷ rs) all = (one (r.region == 0) refl r.stays refl all.0, used_of ps rs all.1)
  where
    last : (a b : Bool) → (a && b) ≡ true → b ≡ true
    last true b e = e
    last false b e = absurd (different e)

    one : (b : Bool) → (r.region == 0) ≡ b → (c : Bool) → r.stays ≡ c → (((r.region == 0) && r.stays) || (not r.stays && (is_placed r && is_used ps r))) ≡ true → is_used ps r ≡ true
    one true e true f all = rw (e, f) refl
    one false e true f all = absurd (different (sym (ap (λ (x : Bool). (x && r.stays) || (not r.stays && (is_placed r && is_used ps r))) e ∙ ap (λ (x : Bool). not x && (is_placed r && is_used ps r)) f) ∙ all))
    one true e false f all = last (is_placed r) (is_used ps r) (sym (ap (λ (x : Bool). ((r.region == 0) && x) || (not x && (is_placed r && is_used ps r))) f ∙ ap (λ (x : Bool). (x && false) || (is_placed r && is_used ps r)) e) ∙ all)
    one false e false f all = last (is_placed r) (is_used ps r) (sym (ap (λ (x : Bool). ((r.region == 0) && x) || (not x && (is_placed r && is_used ps r))) f ∙ ap (λ (x : Bool). (x && false) || (is_placed r && is_used ps r)) e) ∙ all)

pub may_lose : (w : World) → IsTidy w.processes w.names w.reserved → MayLose w
may_lose w tidy = record {
  named = tidy.used;
  used = used_of w.processes w.reserved tidy.stay;
  covered = λ n i h there run.
      let inside = tidy.runs.stretches.inside n i h (record { there = there; run = run }) in
      stretch_reserves (region_at n i) h.first h.reserved i w.reserved (tidy.run n i h there run) inside.0 inside.1;
}

module _ (sh : Shelf) (m : Maps) (images : ImageList) (block : ℕ → List ℕ) (p : Parts) (s : Setting) (w : World) (over : IsOver sh m images block p s w) where
  abbrev matches : Matches p w
  matches = matched_by p w.processes w.names w.next_name w.reserved over.stands

  runs_over : AreRuns m
  runs_over = subst AreRuns over.regions (runs_seen p w.processes w.names w.next_name w.reserved over.lawful.maps matches over.stands.tidy)

  full_over : AreFull sh m
  full_over =
      subst (λ (t : Shelf). AreFull t m) over.store
      (subst (AreFull p.shelf) over.regions (full_seen p w.processes w.names w.next_name w.reserved over.lawful.maps matches over.stands.tidy))

  -- what the parts of a machine know is what a call on a run asks of them
  pub known_over : length w.processes ≡ m.processes → IsKnownBy sh m p (others_of s w)
  known_over total = record { shelf = over.store; maps = over.regions; processes = total; runs = runs_over; full = full_over }

  pub lose_over : MayLose w
  lose_over = may_lose w over.stands.tidy

  pub huge_over : (pid : ℕ) → IsProcess m pid → (a : HugeArguments) (c : Cpu) → huge_ruling a (known_in p (others_of s w)) pid c ≡ huge_ruling a (known_of s w) pid c
  huge_over pid process a c =
      sym (same_huge p.maps (known_of s w) (known_in p (others_of s w)) (known_is p s w over.lawful over.set over.stands) a pid c (subst (λ (x : Maps). IsProcess x pid) (sym over.regions) process))

-- the registers of a call that sizes a run
pub sized_registers : (k : Known) (n segs part selector : ℕ) (c d : Cpu) (q : Ruling) (r : Roomed) → q ≡ huge_reallocation k n segs part selector c → d ≡ without c (dropped_indexes (changes_roomed q r)) → d ≡ huge_behind (Realloc segs part selector) k n c r
sized_registers k n segs part selector c d q r same is = is ∙ (ap (λ (x : Ruling). without c (dropped_indexes (changes_roomed x r))) same ∙ go r)
  where
    go : (r : Roomed) → without c (dropped_indexes (changes_roomed (huge_reallocation k n segs part selector c) r)) ≡ huge_behind (Realloc segs part selector) k n c r
    go (Done x) = refl
    go NoRoom = refl
    go SwapFull = refl
    go SwapFault = refl

pub run_registers : (a : HugeArguments) (k : Known) (n : ℕ) (c d : Cpu) (r : Roomed) → d ≡ huge_behind a k n c r → d ≡ cpu_behind (Huge a) k n c r
run_registers a k n c d (Done x) is = is
run_registers a k n c d NoRoom is = is
run_registers a k n c d SwapFull is = is
run_registers a k n c d SwapFault is = is

pub limits_sized : (s t : Shelf) (m n : Maps) (r : Roomed) → KeepsLimitsBy s m t n (if is_done r then 4096 else 0) 0 → KeepsLimitsBy s m t n (most_made r) (made_in r)
limits_sized s t m n (Done x) is = limits_by s t m n 4096 is
limits_sized s t m n NoRoom is = is
limits_sized s t m n SwapFull is = is
limits_sized s t m n SwapFault is = is

-- why it stops
pub lacks_sized : (t : Shelf) (k : Known) (n segs part selector : ℕ) (c : Cpu) (keep : List SegId) (r : Roomed) (idles : Type 0)
    → StopsFor t keep (huge_reallocation k n segs part selector c).changes (r ≡ NoRoom) (r ≡ SwapFull) idles → LacksRun (Huge (Realloc segs part selector)) t k n c keep r
lacks_sized t k n segs part selector c keep (Done x) idles stops = tt
lacks_sized t k n segs part selector c keep NoRoom idles stops = stops.no_room refl
lacks_sized t k n segs part selector c keep SwapFull idles stops = stops.all_load refl
lacks_sized t k n segs part selector c keep SwapFault idles stops = tt
