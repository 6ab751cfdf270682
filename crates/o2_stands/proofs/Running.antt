-- A process goes on with other registers.
use Rattle.std.proofs.Common.{◌≡◌, ℕ, ◌+◌, inl, inr, Bool, true, false, ◌||◌, List, Option, Some, None, is_some, refl, sym, ap, ◌∙◌, subst, if◌then◌else◌, option_map}
use Rattle.std.specs.Prelude.{◌==◌}
use Rattle.std.specs.List.{list_any}
use Rattle.std.proofs.lemmas.Bool.{cases_eq, eq-eqb, ne_eqb}
use Rattle.o2_world.specs.Holders.{is_held, process_at, with_process}
use Rattle.o2_world.specs.Known.{held_at, holds_index, lives_at, reserves}
use Rattle.o2_world.specs.Map.{Map, get}
use Rattle.o2_world.specs.Sound.{held_of}
use Rattle.o2_world.specs.World.{Held, Process, Reserve, Segment, is_live}
use Rattle.o2_stands.specs.Parts.{Parts, Running, running_of}
use Rattle.o2_stands.specs.Stands.{IsNamed, IsReady, IsTidy, StandsIn, number_of, taken_by}
use Rattle.o2_stands.specs.Moves.{with_running}
use Rattle.o2_stands.proofs.Reserved.{stay_still}
use Rattle.o2_stands.proofs.RunsKept.{flags_same, full_same, runs_same}
use Rattle.o2_stands.proofs.Used.{used_by, used_found, used_still}
use Rattle.o2_stands.proofs.Worlds.{holds_of, index_back, index_held, name_held, number_is, put_here, put_other}

-- registers and state of a process are nothing that the calls go by
pub running_ready : (p : Parts) (pid : ℕ) (r : Running) → IsReady p → IsReady (with_running p pid r)
running_ready p pid r w = record {
  aged = w.aged;
  named = w.named;
  held = w.held;
  settled = w.settled;
  guarded = w.guarded;
  clean = w.clean;
  pictures = w.pictures;
  device = w.device;
}

pub running_named : (p : Parts) (pid : ℕ) (r : Running) (o : Option ℕ) (v : Option Segment) → IsNamed p o v → IsNamed (with_running p pid r) o v
running_named p pid r None None is = is
running_named p pid r (Some k) None is = is
running_named p pid r None (Some s) is = is
running_named p pid r (Some k) (Some s) is = record { size = is.size; bytes = is.bytes; clean = is.clean; flags = is.flags; lock = is.lock; shared = is.shared; discarded = is.discarded }

pub running_put : (p : Parts) (ps : List Process) (pid : ℕ) (x q : Process) → process_at ps pid ≡ Some x → ((n : ℕ) → option_map running_of (process_at ps n) ≡ p.running n)
    → (n : ℕ) → option_map running_of (process_at (with_process ps pid q) n) ≡ (with_running p pid (running_of q)).running n
running_put p ps pid x q there before n = elim (cases_eq n pid) [
  | inl same ↦
      ap (λ (b : ℕ). option_map running_of (process_at (with_process ps pid q) b)) same
      ∙ (ap (option_map running_of) (put_here ps pid x q there) ∙ ap (λ (b : Bool). if b then Some (running_of q) else p.running n) (sym (eq-eqb n pid same)))
  | inr apart ↦
      ap (option_map running_of) (put_other ps pid x q there n apart)
      ∙ (before n ∙ ap (λ (b : Bool). if b then Some (running_of q) else p.running n) (sym (ne_eqb n pid apart)))
]

both_ways : (a b : Bool) → (a ≡ true → b ≡ true) → (b ≡ true → a ≡ true) → a ≡ b
both_ways true b f g = sym (f refl)
both_ways false true f g = g refl
both_ways false false f g = refl

module _ (ps : List Process) (pid : ℕ) (x q : Process) (there : process_at ps pid ≡ Some x) (same : q.held ≡ x.held) where
  abbrev qs : List Process
  qs = with_process ps pid q

  pub holds_same : (n i : ℕ) → held_at qs n i ≡ held_at ps n i
  holds_same n i = elim (cases_eq n pid) [
    | inl e ↦
        ap (λ (b : ℕ). held_at qs b i) e
        ∙ (ap (λ (o : Option Process). held_of o i) (put_here ps pid x q there)
        ∙ (ap (λ (m : Map Held). get m i) same
        ∙ (ap (λ (o : Option Process). held_of o i) (sym there) ∙ ap (λ (b : ℕ). held_at ps b i) (sym e))))
    | inr apart ↦ ap (λ (o : Option Process). held_of o i) (put_other ps pid x q there n apart)
  ]

  index_of : (ps qs : List Process) → ((n i : ℕ) → held_at qs n i ≡ held_at ps n i) → (i : ℕ) → holds_index ps i ≡ true → holds_index qs i ≡ true
  index_of ps qs h i e =
      let y = index_held ps i e in
      let a : is_some (held_at ps (y.place + 1) i) ≡ true = ap (λ (o : Option Process). is_some (held_of o i)) (number_is ps y.place) ∙ y.there in
      let b : is_some (held_at qs (y.place + 1) i) ≡ true = ap is_some (h (y.place + 1) i) ∙ a in
      index_back qs y.place i (ap (λ (o : Option Process). is_some (held_of o i)) (sym (number_is qs y.place)) ∙ b)

  index_same : (i : ℕ) → holds_index qs i ≡ holds_index ps i
  index_same i = both_ways (holds_index qs i) (holds_index ps i) (index_of qs ps (λ n j. sym (holds_same n j)) i) (index_of ps qs holds_same i)

  taken_same : (reserved : List Reserve) (region i : ℕ) → taken_by qs reserved region i ≡ taken_by ps reserved region i
  taken_same reserved region i =
      ap (λ (b : Bool). (if region == 0 then b else is_some (held_at qs region i)) || list_any (reserves region i) reserved) (index_same i)
      ∙ ap (λ (o : Option Held). (if region == 0 then holds_index ps i else is_some o) || list_any (reserves region i) reserved) (holds_same region i)

  pub tidy_same : (names : Map Segment) (reserved : List Reserve) → is_live q.state ≡ is_live x.state → IsTidy ps names reserved → IsTidy qs names reserved
  tidy_same names reserved lives tidy = record {
    once = tidy.once;
    used = λ n s. used n (tidy.used n s);
    ended = λ n i e. holds_same n i ∙ tidy.ended n i (before n e);
    stay = stay_still ps qs (λ r goes e. used_found qs r (used_still ps qs (λ n i h there. holds_same n i ∙ there) r.region r.first (used_by ps r goes e))) reserved tidy.stay;
    shared = λ n i h high e load. tidy.shared n i h high (sym (holds_same n i) ∙ e) load;
    run = λ n i h e run. tidy.run n i h (sym (holds_same n i) ∙ e) run;
    free = λ n i h e alone other. tidy.free n i h (sym (holds_same n i) ∙ e) alone other;
    disjoint = tidy.disjoint;
    runs = runs_same (held_at ps) (held_at qs) holds_same tidy.runs;
    flags = flags_same (held_at ps) (held_at qs) names holds_same tidy.flags;
    full = full_same (held_at ps) (held_at qs) names holds_same tidy.full;
  }
    where
      used : (n : ℕ) → is_held ps n ≡ true → is_held qs n ≡ true
      used n e =
          (let y = holds_of ps n e in
          subst (λ (z : ℕ). is_held qs z ≡ true) y.named (name_held qs y.number y.index y.hold (holds_same y.number y.index ∙ y.there)))

      before : (n : ℕ) → lives_at (process_at qs n) ≡ false → lives_at (process_at ps n) ≡ false
      before n e = elim (cases_eq n pid) [
        | inl here ↦
            ap (λ (b : ℕ). lives_at (process_at ps b)) here
            ∙ (ap lives_at there ∙ (sym lives ∙ (ap lives_at (sym (put_here ps pid x q there)) ∙ (ap (λ (b : ℕ). lives_at (process_at qs b)) (sym here) ∙ e))))
        | inr apart ↦ ap lives_at (sym (put_other ps pid x q there n apart)) ∙ e
      ]

  pub goes_on_stands : (p : Parts) (names : Map Segment) (next : ℕ) (reserved : List Reserve) → is_live q.state ≡ is_live x.state → StandsIn p ps names next reserved
      → StandsIn (with_running p pid (running_of q)) qs names next reserved
  goes_on_stands p names next reserved lives stands = record {
    ready = running_ready p pid (running_of q) stands.ready;
    segments = λ n. running_named p pid (running_of q) _ _ (stands.segments n);
    made = stands.made;
    processes = running_put p ps pid x q there stands.processes;
    held = λ n i. holds_same n i ∙ stands.held n i;
    taken = λ g i z. taken_same reserved (number_of g) i ∙ stands.taken g i z;
    tidy = tidy_same names reserved lives stands.tidy;
  }
