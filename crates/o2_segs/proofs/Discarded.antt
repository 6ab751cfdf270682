-- A discarded segment that is made anew, and what is told of it.
use Rattle.std.proofs.Common.{◌≡◌, ◌≢◌, ◌≤◌, ◌<◌, ℕ, inl, inr, List, [], ◌∷◌, length, Option, Some, None, is_some, IsSome, Bool, true, false, ◌&&◌, ◌||◌, ◌==◌, cond, eqb, ltb, option_map, get_or, refl, sym, ap, ◌∙◌, subst, arith}
use Rattle.std.specs.Prelude.{replicate, nat_lt, if◌then◌else◌}
use Rattle.std.proofs.lemmas.Bool.{cases_eq, cases_lt, eq-eqb, ne_eqb}
use Rattle.std.proofs.lemmas.Bool.Decides.{nat_tests}
use Rattle.std.proofs.lemmas.List.{ext_get_or}
use Rattle.o2_entries.specs.declared.Attr.{Attr}
use Rattle.o2_entries.specs.declared.Entry.{Entry}
use Rattle.o2_entries.specs.Tables.{slot_at}
use Rattle.o2_place.specs.declared.seg_id.SegId.{SegId}
use Rattle.o2_place.specs.Layout.{over}
use Rattle.o2_place.proofs.Sums.{over-le, over-same}
use Rattle.o2_regions.specs.declared.answer.Answer.{Answer}
use Rattle.o2_regions.specs.declared.answer.Roomed.{Roomed}
use Rattle.o2_regions.specs.declared.answer.Roomed.TheVariants.{Done, NoRoom, SwapFull, SwapFault}
use Rattle.o2_regions.specs.Maps.{Maps}
use Rattle.o2_regions.proofs.Writes.{get_or-same}
use Rattle.o2_segbus.specs.Seen.{key_of}
use Rattle.o2_service.specs.Told.{OnlyTables}
use Rattle.o2_store.specs.Loads.{block_load, block_load_but, live_load, live_load_at, memory_load, memory_load_at, swap_load, swap_load_but}
use Rattle.o2_store.specs.Needs.{all_wanted, has_age, is_named, named_in, wanted}
use Rattle.o2_store.specs.Pictures.{picture}
use Rattle.o2_store.specs.Shelf.{Shelf, Discards, IsDiscardable, IsGone, IsShelf, Pictures, blocks_for, byte_at, entry, entry_of, entry_or, place_of, rounded}
use Rattle.o2_store.specs.Sizes.{all_wanted_at, stays, wanted_at}
use Rattle.o2_store.proofs.Tables.{slot-past}
use Rattle.o2_world.specs.Map.{Map, at_key, get}
use Rattle.o2_world.specs.World.{Segment, World}
use Rattle.o2_world.specs.Changes.{Change, Locks, Marks, Resizes, marked, resized, with_all, with_change, with_changes}
use Rattle.o2_world.specs.Rulings.{grants, resizes_with}
use Rattle.o2_world.proofs.MapLemmas.{get-at_key}
use Rattle.o2_world.proofs.TiedChanges.{zeros_length}
use Rattle.o2_stands.specs.Parts.{Parts}
use Rattle.o2_stands.specs.Stands.{IsNamed, IsSegment, Matches}
use Rattle.o2_changes.specs.Segments.{Revives}
use Rattle.o2_changes.proofs.Keys.{live_key}
use Rattle.o2_changes.proofs.MakesStand.{same_names}
use Rattle.o2_changes.proofs.SizesMatch.{resized_long}
use Rattle.o2_segs.specs.Answers.{Answers, AnswersRoomed, IsUnrefused, changes_roomed}
use Rattle.o2_segs.specs.Limits.{KeepsLimits}
use Rattle.o2_segs.specs.Remade.{IsRemade, wants_room}
use Rattle.o2_segs.proofs.Sharing.{aged_there, few_as, held_told, lived_but, shares_as}

-- What a discarded segment is.

pub gone_is : (s : Shelf) (key : ℕ) → IsShelf s → (entry s key).attr.gone ≡ true → IsGone (entry s key) (place_of s key)
gone_is s key h gone = elim (cases_lt key (length s.entries)) [
  | inl l ↦ (h.each key l).gone gone
  | inr past ↦ absurd (let e : (entry s key).attr.gone ≡ false = ap (λ (o : Option Entry). (entry_or o).attr.gone) (slot-past s.entries key past) in let f : false ≡ true = sym e ∙ gone in cc)
]

pub gone_zero : (s : Shelf) (key : ℕ) → IsShelf s → (entry s key).attr.gone ≡ true → (pic : Pictures) (block : ℕ → List ℕ) (j : ℕ) → byte_at s pic block key j ≡ 0
gone_zero s key h gone pic block j =
    let g = gone_is s key h gone in
    let z : ltb j 0 ≡ false = grind (arith, nat_tests) in
    rw (g.out, g.kept, z) refl

-- it may be discarded again
pub kind_again : (a b : Attr) → IsDiscardable a → b ≡ record a { gone = false } → IsDiscardable b
kind_again a b k e = subst IsDiscardable (sym e) (record { flag = k.flag; written = k.written; unlocked = k.unlocked })

-- no image comes to a segment that has none
pub no_image : (o p : Option (ℕ × ℕ)) → ((x : ℕ × ℕ) → o ≡ Some x → p ≡ Some x) → p ≡ None → o ≡ None
no_image None p f e = refl
no_image (Some x) p f e = absurd (let y : p ≡ Some x = f x refl in let z : None ≡ Some x = sym e ∙ y in cc)

-- What all take, with it.

module _ (s t : Shelf) (key size : ℕ) (r : IsRemade s t key size) (live : IsSome (slot_at s.entries key)) where
  has_same : (k q : ℕ) → has_age (slot_at t.entries k) q ≡ has_age (slot_at s.entries k) q
  has_same k q = elim (cases_eq k key) [
    | inl same ↦ subst (λ (j : ℕ). has_age (slot_at t.entries j) q ≡ has_age (slot_at s.entries j) q) (sym same) (go (slot_at s.entries key) (slot_at t.entries key) (r.live ∙ sym live) r.age)
    | inr n ↦ go (slot_at s.entries k) (slot_at t.entries k) (r.others k n).live (r.others k n).age
  ]
    where
      go : (o u : Option Entry) → is_some u ≡ is_some o → (entry_or u).age ≡ (entry_or o).age → has_age u q ≡ has_age o q
      go None None e f = refl
      go None (Some y) e f = absurd (cc)
      go (Some x) None e f = absurd (cc)
      go (Some x) (Some y) e f = ap (λ (n : ℕ). eqb n q) f

  pub remade_named : (keep : List SegId) (k : ℕ) → named_in t.entries keep k ≡ named_in s.entries keep k
  remade_named [] k = refl
  remade_named (id ∷ ids) k =
      ap (λ (b : Bool). (b && eqb k id.key) || named_in t.entries ids k) (has_same id.key id.age)
      ∙ ap (λ (b : Bool). (is_named s.entries id && eqb k id.key) || b) (remade_named ids k)

  pub remade_live : live_load t ≡ live_load_at s key size
  remade_live =
      ap (over (memory_load t)) r.count
      ∙ over-same (memory_load t) (memory_load_at s key size) (length s.entries) (λ k l. elim (cases_eq k key) [
        | inl same ↦ (let e : eqb k key ≡ true = eq-eqb k key same in rw e (ap (λ (j : ℕ). rounded (entry t j).size) same ∙ ap rounded r.sized))
        | inr n ↦ (let e : eqb k key ≡ false = ne_eqb k key n in rw e (ap rounded (r.others k n).size))
      ])

  pub remade_wanted : (keep : List SegId) → all_wanted t key keep ≡ all_wanted_at s key keep size
  remade_wanted keep =
      ap (over (wanted t key keep)) r.count
      ∙ over-same (wanted t key keep) (wanted_at s key keep size) (length s.entries) (λ k l. elim (cases_eq k key) [
        | inl same ↦
            (let e : eqb k key ≡ true = eq-eqb k key same in
            rw e (always (nat_lt 0 (entry t k).attr.lock) (rounded (entry t k).size) ∙ ap (λ (j : ℕ). rounded (entry t j).size) same ∙ ap rounded r.sized))
        | inr n ↦
            (let e : eqb k key ≡ false = ne_eqb k key n in
            let o = r.others k n in
            rw e (ap (λ (a : Attr). cond (nat_lt 0 a.lock || named_in t.entries keep k) (rounded (entry t k).size) 0) o.attr
            ∙ ap (λ (b : Bool). cond (nat_lt 0 (entry s k).attr.lock || b) (rounded (entry t k).size) 0) (remade_named keep k)
            ∙ ap (λ (z : ℕ). cond (nat_lt 0 (entry s k).attr.lock || named_in s.entries keep k) (rounded z) 0) o.size))
      ])
    where
      always : (b : Bool) (x : ℕ) → cond (b || true) x 0 ≡ x
      always true x = refl
      always false x = refl

  pub remade_swap : swap_load_but t key ≡ swap_load_but s key
  remade_swap =
      ap (over (block_load_but t key)) r.count
      ∙ over-same (block_load_but t key) (block_load_but s key) (length s.entries) (λ k l. elim (cases_eq k key) [
        | inl same ↦ (let e : eqb k key ≡ true = eq-eqb k key same in rw e refl)
        | inr n ↦
            (let e : eqb k key ≡ false = ne_eqb k key n in
            let o = r.others k n in
            rw e (ap (λ (a : Attr). cond a.clean 0 (blocks_for (entry t k).size)) o.attr ∙ ap (λ (z : ℕ). cond (entry s k).attr.clean 0 (blocks_for z)) o.size))
      ])

pub but_less : (s : Shelf) (key : ℕ) → swap_load_but s key ≤ swap_load s
but_less s key = over-le (block_load_but s key) (block_load s) (length s.entries) (λ k l. go (eqb k key) (block_load s k))
  where
    go : (b : Bool) (x : ℕ) → cond b 0 x ≤ x
    go true x = omega arith
    go false x = omega arith

-- The limits.

pub limits_revived : (s t : Shelf) (m : Maps) (id : SegId) → IsSome (entry_of s id) → Revives s t id → KeepsLimits s m t m 0
limits_revived s t m id live sets = record {
  size = ap (λ (x : Shelf). x.places.size) sets.shelf;
  count = sets.count;
  made = (let made : t.made ≡ s.made = ap (λ (x : Shelf). x.made) sets.shelf in omega (arith, made));
  grows = (let made : t.made ≡ s.made = ap (λ (x : Shelf). x.made) sets.shelf in omega (arith, made));
  few = λ k some. few_as m m (λ q j. refl) k;
  shares = shares_as m m (λ q j. refl) s t s.made
      (λ w old alive. lived_but s t id.key (λ k apart. (ap is_some (sets.others k apart), ap (λ (o : Option Entry). (entry_or o).age) (sets.others k apart)))
      (ap is_some sets.here ∙ sym (aged_there id.age (slot_at s.entries id.key) live)) (ap (λ (o : Option Entry). (entry_or o).age) sets.here) w alive);
}

-- where both are stores
pub limits_discarded : (s t : Shelf) (m n : Maps) (id : SegId) → IsShelf s → IsShelf t → IsSome (slot_at s.entries id.key) → IsSome (slot_at t.entries id.key) → (entry t id.key).age ≡ (entry s id.key).age
    → length t.entries ≡ length s.entries → Discards s t id.key → OnlyTables m n → KeepsLimits s m t n 0
limits_discarded s t m n id is now live there age count d only = record {
  size = now.memory ∙ ap (λ (x : Shelf). length x.memory) d.shelf ∙ sym is.memory;
  count = count;
  made = (let made : t.made ≡ s.made = ap (λ (x : Shelf). x.made) d.shelf in omega (arith, made));
  grows = (let made : t.made ≡ s.made = ap (λ (x : Shelf). x.made) d.shelf in omega (arith, made));
  few = λ k some. few_as m n (held_told m n only) k;
  shares = shares_as m n (held_told m n only) s t s.made
      (λ w old alive. lived_but s t id.key (λ k apart. (ap is_some (d.entries k apart), ap (λ (o : Option Entry). (entry_or o).age) (d.entries k apart)))
      (there ∙ sym live) age w alive);
}

-- The world: what was discarded, made anew and discarded again is as it was.

at_twice : (n k : ℕ) (f g : Segment → Segment) (m : Map Segment) → get (at_key n g (at_key n f m)) k ≡ get (at_key n (λ x. g (f x)) m) k
at_twice n k f g m =
    get-at_key n k g (at_key n f m)
    ∙ ap (λ (o : Option Segment). cond (n == k) (option_map g o) (get (at_key n f m) k)) (get-at_key n n f m ∙ ap (λ (b : Bool). cond b (option_map f (get m n)) (get m n)) (eq-eqb n n refl))
    ∙ ap (λ (o : Option Segment). cond (n == k) (option_map g (option_map f (get m n))) o) (get-at_key n k f m)
    ∙ go (n == k) (get m n)
    ∙ sym (get-at_key n k (λ x. g (f x)) m)
  where
    go : (b : Bool) (o : Option Segment) → cond b (option_map g (option_map f o)) (cond b (option_map f o) (get m k)) ≡ cond b (option_map (λ x. g (f x)) o) (get m k)
    go true None = refl
    go true (Some x) = refl
    go false o = refl

abbrev sized_to : ℕ → Segment → Segment
sized_to size g = record g { bytes = resized size g.bytes }

abbrev remade_back : (size old : ℕ) → Segment → Segment
remade_back size old g = marked true (sized_to old (sized_to size (marked false g)))

record WasGone (old : ℕ) (g : Segment) : Type 0 where
  mark : g.discarded ≡ true
  long : length g.bytes ≡ old
  zeros : g.bytes ≡ replicate (length g.bytes) 0

back_is : (size old : ℕ) (g : Segment) → WasGone old g → remade_back size old g ≡ g
back_is size old g was =
    ap (λ (n : ℕ). record g { bytes = replicate n 0; discarded = true }) (resized_long old (resized size g.bytes) ∙ sym was.long)
    ∙ (ap (λ (b : List ℕ). record g { bytes = b; discarded = true }) (sym was.zeros)
    ∙ ap (λ (d : Bool). record g { discarded = d }) (sym was.mark))

was_gone : (p : Parts) (w : World) (id : SegId) (g : Segment) → IsShelf p.shelf → IsSome (entry_of p.shelf id) → (entry p.shelf id.key).attr.gone ≡ true → Matches p w → get w.names id.age ≡ Some g → WasGone (entry p.shelf id.key).size g
was_gone p w id g h live gone m there =
    let own = live_key p.shelf id m.ready.aged live in
    let is : IsSegment p id.key g = subst (λ (o : Option ℕ). IsNamed p o (Some g)) own (subst (λ (x : Option Segment). IsNamed p (key_of p.shelf id.age) x) there (m.segments id.age)) in
    let size = is.size in
    record {
      mark = is.discarded ∙ gone;
      long = size;
      zeros = ext_get_or 0 g.bytes (replicate (length g.bytes) 0) (sym (zeros_length (length g.bytes)))
          (λ j l. is.bytes j (omega (arith, l, size)) ∙ (gone_zero p.shelf id.key h gone (picture p.images) p.block j ∙ sym (get_or-same (length g.bytes) j 0)));
    }

pub back_again : (p q : Parts) (w : World) (id : SegId) (size old : ℕ) → IsShelf p.shelf → IsSome (entry_of p.shelf id) → (entry p.shelf id.key).attr.gone ≡ true → old ≡ (entry p.shelf id.key).size → Matches p w
    → Matches q (with_change (with_change (with_change (with_change w (Marks id.age false)) (Resizes id.age size)) (Resizes id.age old)) (Marks id.age true)) → Matches q w
back_again p q w id size old h live gone same m after =
    same_names q (with_change (with_change (with_change (with_change w (Marks id.age false)) (Resizes id.age size)) (Resizes id.age old)) (Marks id.age true)) w.names (λ k. sym (all k)) after
  where
    there : (o : Option Segment) → get w.names id.age ≡ o → option_map (remade_back size old) o ≡ o
    there None e = refl
    there (Some g) e = ap Some (back_is size old g (subst (λ (n : ℕ). WasGone n g) (sym same) (was_gone p w id g h live gone m e)))

    all : (k : ℕ) → get (at_key id.age (marked true) (at_key id.age (sized_to old) (at_key id.age (sized_to size) (at_key id.age (marked false) w.names)))) k ≡ get w.names k
    all k =
        at_twice id.age k (sized_to old) (marked true) (at_key id.age (sized_to size) (at_key id.age (marked false) w.names))
        ∙ at_twice id.age k (sized_to size) (λ x. marked true (sized_to old x)) (at_key id.age (marked false) w.names)
        ∙ at_twice id.age k (marked false) (λ x. marked true (sized_to old (sized_to size x))) w.names
        ∙ get-at_key id.age k (remade_back size old) w.names
        ∙ (elim (cases_eq id.age k) [
          | inl e ↦ (let t : eqb id.age k ≡ true = eq-eqb id.age k e in rw t (there (get w.names id.age) refl ∙ ap (get w.names) e))
          | inr n ↦ (let t : eqb id.age k ≡ false = ne_eqb id.age k n in rw t refl)
        ])

pub back_as : (p q : Parts) (s : Shelf) (w : World) (id : SegId) (size old : ℕ) → p.shelf ≡ s → IsShelf s → IsSome (entry_of s id) → (entry s id.key).attr.gone ≡ true → old ≡ (entry s id.key).size → Matches p w
    → Matches q (with_change (with_change (with_change (with_change w (Marks id.age false)) (Resizes id.age size)) (Resizes id.age old)) (Marks id.age true)) → Matches q w
back_as p q s w id size old es h live gone same m after =
    back_again p q w id size old (subst IsShelf (sym es) h) (subst (λ (x : Shelf). IsSome (entry_of x id)) (sym es) live) (subst (λ (x : Shelf). (entry x id.key).attr.gone ≡ true) (sym es) gone)
    (subst (λ (x : Shelf). old ≡ (entry x id.key).size) (sym es) same) m after

-- done, as the row has it
pub remade_done : (q : Parts) (w : World) (id : SegId) (size : ℕ) (a : Answer) → a ≡ record { error = 0; value = 0 } → Matches q (with_change (with_change (with_change w (Marks id.age false)) (Resizes id.age size)) (Locks id.age 1))
    → Matches q (with_all w (changes_roomed (grants 0 (resizes_with id.age size true)) (Done a)))
unfolding with_changes
remade_done q w id size a e m = m

pub remade_answers : (cs : List Change) (a : Answer) → a ≡ record { error = 0; value = 0 } → AnswersRoomed (grants 0 cs) (Done a)
remade_answers cs a e = record { error = ap (λ (x : Answer). x.error) e; value = ap (λ (x : Answer). x.value) e }

-- What wants room.

pub gone_wanted : (s : Shelf) (key : ℕ) (keep : List SegId) → (entry s key).attr.gone ≡ true → wants_room s key keep ≡ true
gone_wanted s key keep gone = ap (λ (b : Bool). b || (is_some (place_of s key) && stays s key keep)) gone

pub room_wanted : (s : Shelf) (key : ℕ) (keep : List SegId) → IsSome (place_of s key) → stays s key keep ≡ true → wants_room s key keep ≡ true
room_wanted s key keep here stay =
    ap (λ (b : Bool). (entry s key).attr.gone || (b && stays s key keep)) here ∙ ap (λ (b : Bool). (entry s key).attr.gone || b) stay ∙ or_true (entry s key).attr.gone
  where
    or_true : (b : Bool) → (b || true) ≡ true
    or_true true = refl
    or_true false = refl

pub wanted_room : (s : Shelf) (key : ℕ) (keep : List SegId) → (entry s key).attr.gone ≡ false → wants_room s key keep ≡ true → IsSome (place_of s key) × (stays s key keep ≡ true)
wanted_room s key keep whole wants = both (is_some (place_of s key)) (stays s key keep) (sym (ap (λ (b : Bool). b || (is_some (place_of s key) && stays s key keep)) whole) ∙ wants)
  where
    both : (a b : Bool) → (a && b) ≡ true → (a ≡ true) × (b ≡ true)
    both true true e = (refl, refl)
    both true false e = absurd (cc)
    both false b e = absurd (cc)

-- what answers a row without an error isn't refused
pub unrefused_any : (a : Roomed) → AnswersRoomed (grants 0 []) a → IsUnrefused a
unrefused_any (Done a) e = e.error
unrefused_any NoRoom e = tt
unrefused_any SwapFull e = tt
unrefused_any SwapFault e = tt
