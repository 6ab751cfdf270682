use Rattle.std.proofs.Common.{◌≡◌, ℕ, ◌+◌, ◌<◌, ◌≤◌, arith, length, max, nat_lt, Some, None, ap, subst, sym, ◌∙◌, true, false}
use Rattle.o2_desc.specs.Choice.{IsRun}
use Rattle.o2_entries.specs.Tables.{live_numbers}
use Rattle.o2_regions.specs.declared.answer.Answer.{Answer}
use Rattle.o2_regions.specs.declared.held.Region.{Region}
use Rattle.o2_regions.specs.Maps.{IsRegion, end_of, first_of, is_taken}
use Rattle.o2_stands.specs.Knows.{known_in}
use Rattle.o2_stands.specs.Stands.{Matches}
use Rattle.o2_world.specs.Changes.{with_all}
use Rattle.o2_world.specs.HugeRulings.{huge_at, is_huge_fault, segments_of}
use Rattle.o2_world.specs.Rulings.{Ruling}
use Rattle.o2_segs.specs.Answers.{Answers}
use Rattle.o2_segs.specs.Made.{region_for}
use Rattle.o2_segs.proofs.Limits.{entries_refl, limits_by}
use Rattle.o2_segs.proofs.Rows.{refusal_answers, refusal_matches}
use Rattle.o2_huge.specs.Members.{MayMake}
use Rattle.o2_huge.proofs.Keeping.{limits_grown, limits_still}
use Rattle.o2_huge.proofs.Rows.{all_wanted, alloc_at, alloc_fault, alloc_full, alloc_matches, chosen_as, faultless, region_there, room_left, some_wanted}
use Rattle.o2_changes.proofs.Framing.{order_refl}
use Rattle.o2_huge.proofs.allocating.alloc_huge.Goals as goal

pub returns-then-is_fault-clause-answer : goal.returns-then-is_fault-clause-answer
returns-then-is_fault-clause-answer c = λ p o es em.
    refusal_answers _ 87 c.refusal.result
    (alloc_fault (known_in p o) c.args.pid c.args.segs c.args.part c.args.most c.args.flags (subst (λ (n : ℕ). is_huge_fault n c.args.most c.args.flags ≡ true) c.segments_of-segments.ensures (sym c.if-is_fault.ensures))) c.refusal.ensures

pub returns-then-is_fault-clause-matches : goal.returns-then-is_fault-clause-matches
returns-then-is_fault-clause-matches c = λ p o w x es em at q.
    refusal_matches p c.args.store.now c.args.regions.now w _ 87 es em
    (alloc_fault (known_in p o) c.args.pid c.args.segs c.args.part c.args.most c.args.flags (subst (λ (n : ℕ). is_huge_fault n c.args.most c.args.flags ≡ true) c.segments_of-segments.ensures (sym c.if-is_fault.ensures))) q

pub returns-then-is_fault-clause-entries : goal.returns-then-is_fault-clause-entries
returns-then-is_fault-clause-entries c = entries_refl c.args.store.now

pub returns-then-is_too_many-clause-answer : goal.returns-then-is_too_many-clause-answer
returns-then-is_too_many-clause-answer c = λ p o es em.
    refusal_answers _ 8 c.refusal-then-is_too_many.result
    (alloc_full p o c.args.store.now c.args.pid c.args.segs c.args.part c.args.most c.args.flags es
    (subst (λ (n : ℕ). is_huge_fault n c.args.most c.args.flags ≡ false) c.segments_of-segments.ensures (sym c.if-is_fault.ensures))
    (subst (λ (n : ℕ). nat_lt (length c.args.store.now.entries) (length (live_numbers 0 c.args.store.now.entries) + n) ≡ true) c.segments_of-segments.ensures (sym c.if-is_too_many.ensures))) c.refusal-then-is_too_many.ensures

pub returns-then-is_too_many-clause-matches : goal.returns-then-is_too_many-clause-matches
returns-then-is_too_many-clause-matches c = λ p o w x es em at q.
    refusal_matches p c.args.store.now c.args.regions.now w _ 8 es em
    (alloc_full p o c.args.store.now c.args.pid c.args.segs c.args.part c.args.most c.args.flags es
    (subst (λ (n : ℕ). is_huge_fault n c.args.most c.args.flags ≡ false) c.segments_of-segments.ensures (sym c.if-is_fault.ensures))
    (subst (λ (n : ℕ). nat_lt (length c.args.store.now.entries) (length (live_numbers 0 c.args.store.now.entries) + n) ≡ true) c.segments_of-segments.ensures (sym c.if-is_too_many.ensures))) q

pub returns-then-is_too_many-clause-entries : goal.returns-then-is_too_many-clause-entries
returns-then-is_too_many-clause-entries c = entries_refl c.args.store.now

pub returns-in-None-clause-answer : goal.returns-in-None-clause-answer
returns-in-None-clause-answer c = λ p o es em.
    (let s = c.args.store.now in
    let m = c.args.regions.now in
    let pid = c.args.pid in
    let segs = c.args.segs in
    let part = c.args.part in
    let most = c.args.most in
    let flags = c.args.flags in
    let wanted = c.segments_of-segments.ensures in
    let good = subst (λ (n : ℕ). is_huge_fault n most flags ≡ false) wanted (sym c.if-is_fault.ensures) in
    let room = subst (λ (n : ℕ). nat_lt (length s.entries) (length (live_numbers 0 s.entries) + n) ≡ false) wanted (sym c.if-is_too_many.ensures) in
    let count = c.max-count.ensures ∙ ap (λ (n : ℕ). max n c.from.result) wanted ∙ ap (max (segments_of segs part)) c.from.ensures in
    let at = chosen_as m None c.region_for.result (region_for pid flags) c.max-count.result (max (segments_of segs part) most) c.region_for.ensures count c.in-None.ensures.chosen in
    refusal_answers _ 8 c.refusal-in-None.result (alloc_at p o s m pid segs part most flags None es em c.requires.process.0 good room at) c.refusal-in-None.ensures)

pub returns-in-None-clause-matches : goal.returns-in-None-clause-matches
returns-in-None-clause-matches c = λ p o w x es em at_pid q.
    (let s = c.args.store.now in
    let m = c.args.regions.now in
    let pid = c.args.pid in
    let segs = c.args.segs in
    let part = c.args.part in
    let most = c.args.most in
    let flags = c.args.flags in
    let wanted = c.segments_of-segments.ensures in
    let good = subst (λ (n : ℕ). is_huge_fault n most flags ≡ false) wanted (sym c.if-is_fault.ensures) in
    let room = subst (λ (n : ℕ). nat_lt (length s.entries) (length (live_numbers 0 s.entries) + n) ≡ false) wanted (sym c.if-is_too_many.ensures) in
    let count = c.max-count.ensures ∙ ap (λ (n : ℕ). max n c.from.result) wanted ∙ ap (max (segments_of segs part)) c.from.ensures in
    let at = chosen_as m None c.region_for.result (region_for pid flags) c.max-count.result (max (segments_of segs part) most) c.region_for.ensures count c.in-None.ensures.chosen in
    refusal_matches p s m w _ 8 es em (alloc_at p o s m pid segs part most flags None es em c.requires.process.0 good room at) q)

pub returns-in-None-clause-entries : goal.returns-in-None-clause-entries
returns-in-None-clause-entries c = entries_refl c.args.store.now

pub free_run-requires-clause-region : goal.free_run-requires-clause-region
free_run-requires-clause-region c = subst (IsRegion c.args.regions.now) (sym c.region_for.ensures) (region_there c.args.regions.now c.args.pid c.args.flags c.requires.process)

pub free_run-requires-clause-some : goal.free_run-requires-clause-some
free_run-requires-clause-some c = subst (λ (n : ℕ). 0 < n) (sym c.max-count.ensures) (some_wanted c.segments_of-segments.result c.from.result (faultless c.segments_of-segments.result c.args.most c.args.flags (sym c.if-is_fault.ensures)).1.1)

pub make_run-requires-clause-free : goal.make_run-requires-clause-free
make_run-requires-clause-free c = subst (λ (g : Region). IsRun (is_taken c.args.regions.now g) (first_of g) (end_of g) c.max-count.result c.in-Some.first) c.region_for.ensures c.in-Some.ensures.free

pub make_run-requires-clause-few : goal.make_run-requires-clause-few
make_run-requires-clause-few c = subst (λ (n : ℕ). n ≤ c.max-count.result) c.segments_of-segments.ensures (subst (λ (k : ℕ). c.segments_of-segments.result ≤ k) (sym c.max-count.ensures) (all_wanted c.segments_of-segments.result c.from.result))

pub make_run-requires-clause-may_make : goal.make_run-requires-clause-may_make
make_run-requires-clause-may_make c =
    let s = c.args.store.now in
    let few = c.in-Some.ensures.few in
    let all = subst (λ (k : ℕ). c.segments_of-segments.result ≤ k) (sym c.max-count.ensures) (all_wanted c.segments_of-segments.result c.from.result) in
    let made = c.requires.made in
    subst (MayMake s c.args.regions.now c.args.pid) c.segments_of-segments.ensures (record {
      process = c.requires.process;
      order = c.requires.order;
      made = omega (arith, few, all, made);
      room = room_left (length s.entries) (length (live_numbers 0 s.entries)) c.segments_of-segments.result (sym c.if-is_too_many.ensures);
    })

pub make_run-requires-clause-flags : goal.make_run-requires-clause-flags
make_run-requires-clause-flags c = (faultless c.segments_of-segments.result c.args.most c.args.flags (sym c.if-is_fault.ensures)).0

pub make_run-requires-clause-unlocked : goal.make_run-requires-clause-unlocked
make_run-requires-clause-unlocked c = (faultless c.segments_of-segments.result c.args.most c.args.flags (sym c.if-is_fault.ensures)).1.0

pub returns-in-Some-clause-answer : goal.returns-in-Some-clause-answer
returns-in-Some-clause-answer c = λ p o es em.
    (let s = c.args.store.now in
    let m = c.args.regions.now in
    let pid = c.args.pid in
    let segs = c.args.segs in
    let part = c.args.part in
    let most = c.args.most in
    let flags = c.args.flags in
    let wanted = c.segments_of-segments.ensures in
    let good = subst (λ (n : ℕ). is_huge_fault n most flags ≡ false) wanted (sym c.if-is_fault.ensures) in
    let room = subst (λ (n : ℕ). nat_lt (length s.entries) (length (live_numbers 0 s.entries) + n) ≡ false) wanted (sym c.if-is_too_many.ensures) in
    let count = c.max-count.ensures ∙ ap (λ (n : ℕ). max n c.from.result) wanted ∙ ap (max (segments_of segs part)) c.from.ensures in
    let at = chosen_as m (Some c.in-Some.first) c.region_for.result (region_for pid flags) c.max-count.result (max (segments_of segs part) most) c.region_for.ensures count c.in-Some.ensures.chosen in
    let given = c.done.ensures ∙ ap (λ (v : ℕ). record { error = 0; value = v }) c.selector_at.ensures in
    subst (λ (r : Ruling). Answers r c.done.result) (sym (alloc_at p o s m pid segs part most flags (Some c.in-Some.first) es em c.requires.process.0 good room at))
    (record { error = ap (λ (a : Answer). a.error) given; value = ap (λ (a : Answer). a.value) given }))

pub returns-in-Some-clause-matches : goal.returns-in-Some-clause-matches
returns-in-Some-clause-matches c = λ p o w x es em at_pid q.
    (let s = c.args.store.now in
    let m = c.args.regions.now in
    let pid = c.args.pid in
    let segs = c.args.segs in
    let part = c.args.part in
    let most = c.args.most in
    let flags = c.args.flags in
    let wanted = c.segments_of-segments.ensures in
    let good = subst (λ (n : ℕ). is_huge_fault n most flags ≡ false) wanted (sym c.if-is_fault.ensures) in
    let room = subst (λ (n : ℕ). nat_lt (length s.entries) (length (live_numbers 0 s.entries) + n) ≡ false) wanted (sym c.if-is_too_many.ensures) in
    let count = c.max-count.ensures ∙ ap (λ (n : ℕ). max n c.from.result) wanted ∙ ap (max (segments_of segs part)) c.from.ensures in
    let at = chosen_as m (Some c.in-Some.first) c.region_for.result (region_for pid flags) c.max-count.result (max (segments_of segs part) most) c.region_for.ensures count c.in-Some.ensures.chosen in
    let t = c.make_run.new.store in
    let n = c.make_run.new.regions in
    subst (λ (r : Ruling). Matches (record p { shelf = t; maps = n }) (with_all w r.changes))
    (sym (alloc_at p o s m pid segs part most flags (Some c.in-Some.first) es em c.requires.process.0 good room at ∙ ap (λ (k : ℕ). huge_at (known_in p o) pid segs part k flags (Some c.in-Some.first)) (sym count)))
    (alloc_matches p o w x s t m n pid segs part c.max-count.result flags c.in-Some.first es em at_pid c.make_run.ensures.matches q))

pub returns-in-Some-clause-holds : goal.returns-in-Some-clause-holds
returns-in-Some-clause-holds c = c.make_run.ensures.grows.holds

pub returns-in-Some-clause-limits : goal.returns-in-Some-clause-limits
returns-in-Some-clause-limits c =
    let few = c.in-Some.ensures.few in
    let all = subst (λ (n : ℕ). n ≤ c.max-count.result) c.segments_of-segments.ensures (subst (λ (k : ℕ). c.segments_of-segments.result ≤ k) (sym c.max-count.ensures) (all_wanted c.segments_of-segments.result c.from.result)) in
    let s = c.args.store.now in
    let t = c.make_run.new.store in
    let m = c.args.regions.now in
    let n = c.make_run.new.regions in
    let grows = c.make_run.ensures.grows in
    limits_by s t m n 4096 (limits_grown s t m n (segments_of c.args.segs c.args.part) 1 4096 grows (omega (arith, few, all)) grows.few c.make_run.ensures.shares)

pub returns-then-is_fault-clause-limits : goal.returns-then-is_fault-clause-limits
returns-then-is_fault-clause-limits c = limits_still c.args.store.now c.args.regions.now 4096

pub returns-then-is_too_many-clause-limits : goal.returns-then-is_too_many-clause-limits
returns-then-is_too_many-clause-limits c = limits_still c.args.store.now c.args.regions.now 4096

pub returns-in-None-clause-limits : goal.returns-in-None-clause-limits
returns-in-None-clause-limits c = limits_still c.args.store.now c.args.regions.now 4096

pub returns-in-Some-clause-entries : goal.returns-in-Some-clause-entries
returns-in-Some-clause-entries c = c.make_run.ensures.grows.entries

pub returns-in-Some-clause-kept : goal.returns-in-Some-clause-kept
returns-in-Some-clause-kept c = c.make_run.ensures.grows.kept

pub returns-then-is_fault-clause-goes_on : goal.returns-then-is_fault-clause-goes_on
returns-then-is_fault-clause-goes_on c = order_refl c.args.store.now c.args.regions.now c.requires.order

pub returns-then-is_too_many-clause-goes_on : goal.returns-then-is_too_many-clause-goes_on
returns-then-is_too_many-clause-goes_on c = order_refl c.args.store.now c.args.regions.now c.requires.order

pub returns-in-None-clause-goes_on : goal.returns-in-None-clause-goes_on
returns-in-None-clause-goes_on c = order_refl c.args.store.now c.args.regions.now c.requires.order

pub returns-in-Some-clause-goes_on : goal.returns-in-Some-clause-goes_on
returns-in-Some-clause-goes_on c = c.make_run.ensures.grows.goes_on
