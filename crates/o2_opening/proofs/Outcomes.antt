-- The processes that have started over a store.
use Rattle.std.proofs.Common.{◌≡◌, ℕ, ◌+◌, ◌<◌, ◌≤◌, ◌&&◌, nat_le, nat_lt, true, false, List, length, get_or, Option, ap, sym, ◌∙◌, refl, arith, subst}
use Rattle.std.specs.Prelude.{min}
use Rattle.std.proofs.lemmas.List.{length-map}
use Rattle.std.proofs.lemmas.Bool.Decides.{nat_tests}
use Rattle.std.proofs.lemmas.Option.{none-some}
use Rattle.o2_conf.specs.declared.conf.Conf.{Conf}
use Rattle.o2_dynlink.specs.Outcome.{LinkedParts, modules_of}
use Rattle.o2_regions.specs.declared.held.Region.TheVariants.{Shared}
use Rattle.o2_regions.specs.Kept.{AreKept}
use Rattle.o2_regions.specs.Maps.{Maps, is_reserved}
use Rattle.o2_store.specs.Shelf.{Shelf}
use Rattle.o2_swapmap.specs.Piles.{all_of}
use Rattle.o2_world.specs.Map.{get}
use Rattle.o2_world.specs.Starts.{Built}
use Rattle.o2_load.specs.declared.progress.Progress.{Progress}
use Rattle.o2_load.proofs.Reserved.{any_map}
use Rattle.o2_load.specs.Loads.{library_ranges}
use Rattle.o2_load.specs.Memory.{KeepsSetting}
use Rattle.o2_load.specs.Progresses.{HasCome, course}
use Rattle.o2_opening.specs.declared.stored.Stored.{Stored}
use Rattle.o2_opening.specs.declared.opening.Opened.{Opened}
use Rattle.o2_opening.specs.Openings.{IsOpened}
use Rattle.o2_opening.specs.Libraries.{library_indexes}
use Rattle.o2_opening.specs.Starting.{IsStarting, IsNamedAs, IsPrepared, may_hold, stored_names, stored_seen}
use Rattle.o2_opening.proofs.Openings.{ages_apart, key_is, pictures_are, names_held, held_well}
use Rattle.o2_opening.proofs.Libraries.{ranges_reserve}

module _ (p : Progress Stored) (m : Opened) (l : LinkedParts) (b : Built) (most : ℕ) (store : m.store ≡ p.build.segments.store) (regions : m.regions ≡ p.build.segments.regions) (cpus : m.cpus ≡ p.cpus)
    (starts : m.starts ≡ p.starts) (is : IsStarting p.build.segments) (kept : AreKept p.build.segments.regions) (come : HasCome (stored_names p.build.segments l.images) (course (stored_seen p.build.segments) p) l most b)
    (shared : (i : ℕ) → 4096 ≤ i → i < 8192 → is_reserved p.build.segments.regions Shared i ≡ (nat_le 4096 i && nat_lt i (4096 + library_indexes (modules_of l.images)))) where
  whole : Opened
  whole = record m { store = p.build.segments.store; regions = p.build.segments.regions; cpus = p.cpus; starts = p.starts }

  opened : IsOpened whole l b
  unfolding whole
  opened =
      let s = p.build.segments.store in
      let r = p.build.segments.regions in
      let ids = p.build.segments.ids.items in
      record {
        next = sym come.count ∙ sym is.stored.made;
        named = λ n. subst (λ (k : Option ℕ). IsNamedAs s l.images k (get b.names n)) (sym (key_is s ids is.stored n)) (come.named n);
        out = is.stored.out;
        pictures = pictures_are s ids is.stored l.images b.names come.named;
        clean = record { bytes = λ k at len j clean there less block. absurd (none-some (at, len) (sym (is.stored.out k) ∙ there)) };
        none = come.none;
        places = come.places;
        same = come.same;
        aged = ages_apart s ids is.stored;
        found = names_held s r ids is.stored is.mapped kept;
        held = held_well s r ids is.stored is.mapped kept;
        settled = is.mapped.settled;
        own = is.mapped.own;
        shared = λ i from low. shared i from low ∙ sym (ranges_reserve l.images i) ∙ sym (any_map i (library_ranges l));
        tables = is.mapped.tables;
        alone = λ pid i h e. (is.mapped.held pid i h e).reserved;
        loaded = λ pid i h e. (is.mapped.held pid i h e).cause;
        once = λ pid i h e. (is.mapped.held pid i h e).holds;
        rows = sym (length-map p.starts.items (λ v. v.items)) ∙ come.rows;
        lines = come.lines;
      }

  pub opened_by : IsOpened m l b
  unfolding whole
  opened_by =
      subst (λ x. IsOpened (record m { store = x }) l b) (sym store)
      (subst (λ x. IsOpened (record m { store = p.build.segments.store; regions = x }) l b) (sym regions)
      (subst (λ x. IsOpened (record m { store = p.build.segments.store; regions = p.build.segments.regions; cpus = x }) l b) (sym cpus)
      (subst (λ x. IsOpened (record m { store = p.build.segments.store; regions = p.build.segments.regions; cpus = p.cpus; starts = x }) l b) (sym starts) opened)))

-- what was reserved of the shared indexes before the first start is so behind the last
pub shared_stays : (m n : Maps) → 1 ≤ m.processes → ((pid i : ℕ) → may_hold n pid i ≡ may_hold m pid i) → n.processes ≡ m.processes → (i : ℕ) → 4096 ≤ i → is_reserved n Shared i ≡ is_reserved m Shared i
shared_stays m n some takes processes i from =
    let l : nat_lt i 4096 ≡ false = grind (arith, nat_tests) in
    sym (shared_part n i l (omega (arith, processes, some))) ∙ takes 1 i ∙ shared_part m i l some
  where
    shared_part : (m : Maps) (i : ℕ) → nat_lt i 4096 ≡ false → 1 ≤ m.processes → may_hold m 1 i ≡ is_reserved m Shared i
    shared_part m i l some =
        let one : nat_le 1 m.processes ≡ true = grind (arith, nat_tests) in
        rw (one, l) refl

-- What holds of all that has opened, by what was there before the first start.
module _ (v : Stored) (p : Progress Stored) (m : Opened) (l : LinkedParts) (c : Conf) (device : ℕ) (prepared : IsPrepared l v) (setting : KeepsSetting (stored_seen v) (stored_seen p.build.segments))
    (store : m.store ≡ p.build.segments.store) (regions : m.regions ≡ p.build.segments.regions) where
  pub memory_is : v.store.places.size ≡ c.memory → m.store.places.size ≡ c.memory
  memory_is is = ap (λ (s : Shelf). s.places.size) store ∙ ap (λ (ns : List ℕ). get_or ns 0 0) setting.fixed ∙ is

  pub segments_are : length v.store.entries ≡ c.segments → length m.store.entries ≡ c.segments
  segments_are is = ap (λ (s : Shelf). length s.entries) store ∙ setting.most ∙ is

  pub blocks_are : all_of v.store.swap ≡ min c.swap device → all_of m.store.swap ≡ min c.swap device
  blocks_are is = ap (λ (s : Shelf). all_of s.swap) store ∙ ap (λ (ns : List ℕ). get_or ns 1 0) setting.fixed ∙ is

  pub processes_are : v.regions.processes ≡ length c.process → m.regions.processes ≡ length c.process
  processes_are is = ap (λ (r : Maps). r.processes) regions ∙ ap (λ (ns : List ℕ). get_or ns 2 0) setting.fixed ∙ is

  shared_is : 1 ≤ v.regions.processes → (i : ℕ) → 4096 ≤ i → i < 8192 → is_reserved p.build.segments.regions Shared i ≡ (nat_le 4096 i && nat_lt i (4096 + library_indexes (modules_of l.images)))
  shared_is some i from to = shared_stays v.regions p.build.segments.regions some setting.takes (ap (λ (ns : List ℕ). get_or ns 2 0) setting.fixed) i from ∙ prepared.shared i

  pub all_opened : m.cpus ≡ p.cpus → m.starts ≡ p.starts → IsStarting p.build.segments → AreKept m.regions → 1 ≤ v.regions.processes → (b : Built) (most : ℕ)
      → HasCome (stored_names p.build.segments l.images) (course (stored_seen p.build.segments) p) l most b → IsOpened m l b
  all_opened cpus starts whole kept some b most come =
      opened_by p m l b most store regions cpus starts whole (subst AreKept regions kept) come (shared_is some)
