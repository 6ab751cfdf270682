-- The ring of ids, and what the clock's calls leave.
use Rattle.std.proofs.Common.{◌≡◌, ◌≢◌, ℕ, ◌+◌, ◌<◌, ◌≤◌, ◌⊎◌, inl, inr, List, length, ltb, sym, ap, ◌∙◌, arith, true, false, get_or, subst, Option, Some, None, Bool}
use Rattle.std.proofs.Common.{refl, set, length-set, get_or-set_same, get_or-set_other, if◌then◌else◌, ◌==◌}
use Rattle.std.proofs.lemmas.Bool.{cases_lt, cases_eq}
use Rattle.std.proofs.lemmas.Bool.Decides.{nat_tests}
use Rattle.std.proofs.lemmas.List.{get_or_past}
use Rattle.std.specs.Option.{IfSome, IfNone}
use Rattle.o2_place.specs.declared.clock.Mark.{Mark}
use Rattle.o2_place.specs.Marks.{no_mark, mark_of, IsPresent, IsUnused, IsOutside, IsKept, OnlyUnmarks, IsVictim, IsRing, IsClock, HasPassed, ComesBefore, IsChosen, IsNext, NoneUnused, AllUnused}

-- a present id is one of those that have a mark
pub present_in : (ms : List Mark) (id : ℕ) → IsPresent ms id → id < length ms
present_in ms id p = elim (cases_lt id (length ms)) [
  | inl within ↦ within
  | inr past ↦ (let g : get_or ms id no_mark ≡ no_mark = get_or_past ms id no_mark past in let f : false ≡ true = sym (ap (λ (m : Mark). m.present) g) ∙ p in absurd cc)
]

-- where a present id stands
pub present_turn : (ms : List Mark) (ring turns : List ℕ) (count hand : ℕ) → IsClock ms ring turns count hand → (id : ℕ) → IsPresent ms id → (get_or turns id 0 < count) × (get_or ring (get_or turns id 0) 0 ≡ id)
present_turn ms ring turns count hand h id p = elim (cases_lt id (length ms)) [
  | inl within ↦ (let t : ltb (get_or turns id 0) count ≡ true = sym (h.present id within) ∙ p in (grind (arith, nat_tests), (h.cycle.back id within).1))
  | inr past ↦ (let g : get_or ms id no_mark ≡ no_mark = get_or_past ms id no_mark past in let f : false ≡ true = sym (ap (λ (m : Mark). m.present) g) ∙ p in absurd cc)
]

-- an id at one of the first places is present, and its place is that one
pub present_at : (ms : List Mark) (ring turns : List ℕ) (count hand p : ℕ) → IsClock ms ring turns count hand → p < count → (get_or ring p 0 < length ms) × IsPresent ms (get_or ring p 0) × (get_or turns (get_or ring p 0) 0 ≡ p)
present_at ms ring turns count hand p h l =
    let w : p < length ms = omega (arith, h.some) in
    let t = h.cycle.there p w in
    let b : ltb (get_or turns (get_or ring p 0) 0) count ≡ true = rw t.1 (grind (arith, nat_tests)) in
    (t.0, h.present (get_or ring p 0) t.0 ∙ b, t.1)

bool_cases : (b : Bool) → (b ≡ true) ⊎ (b ≡ false)
bool_cases true = inl refl
bool_cases false = inr refl

not_both : {A : Type 0} (b : Bool) → b ≡ true → b ≡ false → A
not_both b t f = absurd (let e : true ≡ false = sym t ∙ f in cc)

-- what is passed first stays so
pub passed_on : (old mid new : List Mark) (ring keep : List ℕ) (low high : ℕ) → HasPassed old mid ring keep low high → OnlyUnmarks mid new → HasPassed old new ring keep low high
passed_on old mid new ring keep low high a u j l m = elim (a j l m) [ inl k ↦ inl k | inr w ↦ inr (w.0, u.used (get_or ring j 0) w.1) ]

-- what is passed at other places was so before
pub passed_before : (old mid new : List Mark) (ring keep : List ℕ) (low high : ℕ) → HasPassed mid new ring keep low high → ((j : ℕ) → j < high → mark_of mid (get_or ring j 0) ≡ mark_of old (get_or ring j 0)) → HasPassed old new ring keep low high
passed_before old mid new ring keep low high b e j l m = elim (b j l m) [ inl k ↦ inl k | inr w ↦ inr (sym (ap (λ (x : Mark). x.used) (e j m)) ∙ w.0, w.1) ]

-- both halves
pub passed_round : (old mid new : List Mark) (ring keep : List ℕ) (hand count : ℕ) → HasPassed old mid ring keep hand count → HasPassed mid new ring keep 0 hand → OnlyUnmarks mid new
    → ((j : ℕ) → j < hand → mark_of mid (get_or ring j 0) ≡ mark_of old (get_or ring j 0)) → HasPassed old new ring keep 0 count
passed_round old mid new ring keep hand count a b u e j l m = elim (cases_lt j hand) [
  | inl w ↦ passed_before old mid new ring keep 0 hand b e j l w
  | inr w ↦ passed_on old mid new ring keep hand count a u j w m
]

-- the first unused one from the hand on
pub chosen_late : (old new : List Mark) (ring keep : List ℕ) (hand count p : ℕ) → hand ≤ p → p < count → IsOutside keep (get_or ring p 0) → IsUnused old (get_or ring p 0) → HasPassed old new ring keep hand p → IsChosen old new ring keep hand count p
chosen_late old new ring keep hand count p l m o u a = record {
  below = m;
  outside = o;
  before = λ j w b. elim b [
    | inl s ↦ elim (a j s.0 s.1) [ inl k ↦ inl k | inr q ↦ inr (q.0, q.1, u) ]
    | inr s ↦ absurd (omega (arith, s.0))
  ];
  round = λ t. not_both (mark_of old (get_or ring p 0)).used t u;
}

-- the first unused one from place 0 on
pub chosen_early : (old mid new : List Mark) (ring keep : List ℕ) (hand count p : ℕ) → p < hand → hand ≤ count → IsOutside keep (get_or ring p 0) → IsUnused mid (get_or ring p 0)
    → HasPassed old mid ring keep hand count → HasPassed mid new ring keep 0 p → OnlyUnmarks mid new
    → ((j : ℕ) → j < hand → mark_of mid (get_or ring j 0) ≡ mark_of old (get_or ring j 0)) → IsChosen old new ring keep hand count p
chosen_early old mid new ring keep hand count p l m o u a b n e =
    let v : IsUnused old (get_or ring p 0) = sym (ap (λ (x : Mark). x.used) (e p l)) ∙ u in
    record {
      below = omega arith;
      outside = o;
      before = λ j w c. elim c [
        | inl s ↦ absurd (omega (arith, s.0, s.1))
        | inr s ↦ elim s.1 [
          | inl far ↦ elim (passed_on old mid new ring keep hand count a n j far w) [ inl k ↦ inl k | inr q ↦ inr (q.0, q.1, v) ]
          | inr near ↦ elim (passed_before old mid new ring keep 0 p b (λ i t. e i (omega arith)) j (omega arith) near) [ inl k ↦ inl k | inr q ↦ inr (q.0, q.1, v) ]
        ]
      ];
      round = λ t. not_both (mark_of old (get_or ring p 0)).used t v;
    }

-- the first one from the hand on, where all are passed
pub chosen_passed : (old new : List Mark) (ring keep : List ℕ) (hand count p : ℕ) → p < count → IsOutside keep (get_or ring p 0) → HasPassed old new ring keep 0 count
    → ((j : ℕ) → j < count → ComesBefore hand j p → IsKept keep (get_or ring j 0)) → IsChosen old new ring keep hand count p
chosen_passed old new ring keep hand count p l o a k = record {
  below = l;
  outside = o;
  before = λ j w b. inl (k j w b);
  round = λ t. a;
}

pub kept_late : (ring keep : List ℕ) (hand count p : ℕ) → hand ≤ p → ((j : ℕ) → hand ≤ j → j < p → IsKept keep (get_or ring j 0)) → (j : ℕ) → j < count → ComesBefore hand j p → IsKept keep (get_or ring j 0)
kept_late ring keep hand count p l k j w b = elim b [ inl s ↦ k j s.0 s.1 | inr s ↦ absurd (omega (arith, s.0)) ]

pub kept_early : (ring keep : List ℕ) (hand count p : ℕ) → p < hand → ((j : ℕ) → hand ≤ j → j < count → IsKept keep (get_or ring j 0))
    → ((j : ℕ) → 0 ≤ j → j < p → IsKept keep (get_or ring j 0)) → (j : ℕ) → j < count → ComesBefore hand j p → IsKept keep (get_or ring j 0)
kept_early ring keep hand count p l a k j w b = elim b [
  | inl s ↦ absurd (omega (arith, s.0, s.1))
  | inr s ↦ elim s.1 [ inl far ↦ a j far w | inr near ↦ k j (omega arith) near ]
]

pub kept_round : (ring keep : List ℕ) (hand count : ℕ) → ((j : ℕ) → hand ≤ j → j < count → IsKept keep (get_or ring j 0)) → ((j : ℕ) → 0 ≤ j → j < hand → IsKept keep (get_or ring j 0)) → (j : ℕ) → j < count → IsKept keep (get_or ring j 0)
kept_round ring keep hand count a b j w = elim (cases_lt j hand) [ inl l ↦ b j (omega arith) l | inr l ↦ a j l w ]

outside_kept : {A : Type 0} → (keep : List ℕ) (id : ℕ) → IsOutside keep id → IsKept keep id → A
outside_kept keep id o k = absurd (o k.0 k.1 k.2)

-- the one at the chosen place may go
pub chosen_victim : (ms ns : List Mark) (ring turns keep : List ℕ) (count hand p : ℕ) → IsClock ms ring turns count hand → IsChosen ms ns ring keep hand count p → IsVictim ms keep (get_or ring p 0)
chosen_victim ms ns ring turns keep count hand p h c = record {
  present = (present_at ms ring turns count hand p h c.below).1;
  outside = c.outside;
  unused = λ k a o u. elim (bool_cases (mark_of ms (get_or ring p 0)).used) [
    | inr f ↦ f
    | inl t ↦
        (let q = present_turn ms ring turns count hand h k a in
        elim (c.round t (get_or turns k 0) (omega arith) q.0) [
          | inl kept ↦ outside_kept keep k o (subst (IsKept keep) q.1 kept)
          | inr used ↦ not_both (mark_of ms k).used (subst (λ (x : ℕ). (mark_of ms x).used ≡ true) q.1 used.0) u
        ])
  ];
}

-- those that come before it are in the list or passed
pub chosen_next : (ms ns : List Mark) (ring turns keep : List ℕ) (count hand p : ℕ) → IsClock ms ring turns count hand → IsChosen ms ns ring keep hand count p → IsNext (record { marks = ms; places = turns; hand = hand }) ns keep (get_or ring p 0)
chosen_next ms ns ring turns keep count hand p h c k a b =
    let q = present_turn ms ring turns count hand h k a in
    let r = (present_at ms ring turns count hand p h c.below).2 in
    let d : ComesBefore hand (get_or turns k 0) p = subst (λ (x : ℕ). ComesBefore hand (get_or turns k 0) x) r b in
    elim (c.before (get_or turns k 0) q.0 d) [
      | inl kept ↦ inl (subst (IsKept keep) q.1 kept)
      | inr used ↦ inr (subst (λ (x : ℕ). (mark_of ms x).used ≡ true) q.1 used.0, subst (λ (x : ℕ). IsUnused ns x) q.1 used.1, used.2)
    ]

-- where all are used, all are passed
pub chosen_round : (ms ns : List Mark) (ring turns keep : List ℕ) (count hand p : ℕ) → IsClock ms ring turns count hand → IsChosen ms ns ring keep hand count p → NoneUnused ms keep → AllUnused ms ns keep
chosen_round ms ns ring turns keep count hand p h c none k a o = elim (bool_cases (mark_of ms (get_or ring p 0)).used) [
  | inr f ↦ absurd (none (get_or ring p 0) (present_at ms ring turns count hand p h c.below).1 c.outside f)
  | inl t ↦
      (let q = present_turn ms ring turns count hand h k a in
      elim (c.round t (get_or turns k 0) (omega arith) q.0) [
        | inl kept ↦ outside_kept keep k o (subst (IsKept keep) q.1 kept)
        | inr used ↦ subst (λ (x : ℕ). IsUnused ns x) q.1 used.1
      ])
]

-- where all the first ones are in the list, all present ids are
pub all_kept : (ms : List Mark) (ring turns keep : List ℕ) (count hand : ℕ) → IsClock ms ring turns count hand → ((j : ℕ) → j < count → IsKept keep (get_or ring j 0)) → (id : ℕ) → IsPresent ms id → IsKept keep id
all_kept ms ring turns keep count hand h all id p =
    let t = present_turn ms ring turns count hand h id p in
    subst (IsKept keep) t.1 (all (get_or turns id 0) t.0)

-- two ids of a ring stand at two places
apart_turns : (ring turns : List ℕ) (n i j : ℕ) → IsRing ring turns n → i < n → j < n → i ≢ j → get_or turns i 0 ≢ get_or turns j 0
apart_turns ring turns n i j h l m d e = d (sym (h.back i l).1 ∙ ap (λ (x : ℕ). get_or ring x 0) e ∙ (h.back j m).1)

lt_true : (a b : ℕ) → a < b → ltb a b ≡ true
lt_true a b h = grind (arith, nat_tests)

lt_false : (a b : ℕ) → b ≤ a → ltb a b ≡ false
lt_false a b h = grind (arith, nat_tests)

pub kept_round_none : (ms ns : List Mark) (ring turns keep : List ℕ) (count hand : ℕ) → IsClock ms ring turns count hand → ((j : ℕ) → j < count → IsKept keep (get_or ring j 0)) → NoneUnused ms keep → AllUnused ms ns keep
kept_round_none ms ns ring turns keep count hand h all none k p o = outside_kept keep k o (all_kept ms ring turns keep count hand h all k p)

pub some_weaker : {P Q : ℕ → Type 0} → (o : Option ℕ) → ((id : ℕ) → P id → Q id) → IfSome o P → IfSome o Q
some_weaker None f h = h
some_weaker (Some id) f h = f id h

pub none_weaker : {P Q : Type 0} → (o : Option ℕ) → (P → Q) → IfNone o P → IfNone o Q
none_weaker None f h = f h
none_weaker (Some id) f h = h

-- an id has gone back to the hand and then behind the present ones
pub record HasLeft (ms : List Mark) (ring turns : List ℕ) (count hand id : ℕ) (ring1 turns1 : List ℕ) (hand1 : ℕ) (ring2 turns2 : List ℕ) (count2 : ℕ) : Type 0 where
  pub clock : IsClock ms ring turns count hand
  pub id_in : id < length ms
  pub cycle1 : IsRing ring1 turns1 (length ms)
  pub less1 : hand1 ≤ hand
  pub more1 : hand ≤ hand1 + 1
  pub last : hand1 ≤ get_or turns1 id 0
  pub before : hand1 < hand → get_or turns1 id 0 ≡ hand1
  pub far : (k : ℕ) → k < length ms → hand ≤ get_or turns k 0 → get_or turns1 k 0 ≡ get_or turns k 0
  pub near : (k : ℕ) → k < length ms → get_or turns k 0 < hand → get_or turns1 k 0 < hand
  pub cycle2 : IsRing ring2 turns2 (length ms)
  pub less2 : count2 ≤ count
  pub more2 : count ≤ count2 + 1
  pub same : count ≤ get_or turns1 id 0 → count2 ≡ count
  pub first : (k : ℕ) → k < length ms → ltb (get_or turns2 k 0) count2 ≡ (if k == id then false else ltb (get_or turns1 k 0) count)
  pub stay : (k : ℕ) → k < length ms → get_or turns1 k 0 < get_or turns1 id 0 → get_or turns1 k 0 < count → get_or turns2 k 0 ≡ get_or turns1 k 0
  pub beyond : (k : ℕ) → k < length ms → get_or turns1 id 0 < get_or turns1 k 0 → get_or turns1 k 0 < count → get_or turns1 id 0 ≤ get_or turns2 k 0

present_same : (ms : List Mark) (ring turns : List ℕ) (count hand id : ℕ) (ring1 turns1 : List ℕ) (hand1 : ℕ) (ring2 turns2 : List ℕ) (count2 : ℕ) → HasLeft ms ring turns count hand id ring1 turns1 hand1 ring2 turns2 count2
    → (k : ℕ) → k < length ms → ltb (get_or turns1 k 0) count ≡ ltb (get_or turns k 0) count
present_same ms ring turns count hand id ring1 turns1 hand1 ring2 turns2 count2 h k l = elim (cases_lt (get_or turns k 0) hand) [
  | inl w ↦ (let a = h.near k l w in let b = h.clock.within in lt_true (get_or turns1 k 0) count (omega (arith, a, b)) ∙ sym (lt_true (get_or turns k 0) count (omega (arith, b))))
  | inr w ↦ ap (λ (x : ℕ). ltb x count) (h.far k l w)
]

pub left_clock : (ms : List Mark) (ring turns : List ℕ) (count hand id : ℕ) (ring1 turns1 : List ℕ) (hand1 : ℕ) (ring2 turns2 : List ℕ) (count2 : ℕ) → HasLeft ms ring turns count hand id ring1 turns1 hand1 ring2 turns2 count2
    → IsClock (set ms id no_mark) ring2 turns2 count2 hand1
left_clock ms ring turns count hand id ring1 turns1 hand1 ring2 turns2 count2 h = record {
  cycle = subst (IsRing ring2 turns2) (sym (length-set ms id no_mark)) h.cycle2;
  some = subst (λ (n : ℕ). count2 ≤ n) (sym (length-set ms id no_mark)) (omega (arith, h.less2, h.clock.some));
  present = λ k l.
      (let m : k < length ms = subst (λ (n : ℕ). k < n) (length-set ms id no_mark) l in
      let f = h.first k m in
      let p = present_same ms ring turns count hand id ring1 turns1 hand1 ring2 turns2 count2 h k m in
      let o = h.clock.present k m in
      elim (cases_eq k id) [
        | inl e ↦ (let t : (k == id) ≡ true = grind (arith, nat_tests) in let q : ltb (get_or turns2 k 0) count2 ≡ false = rw t at f in
            ap (λ (x : Mark). x.present) (subst (λ (x : ℕ). mark_of (set ms id no_mark) x ≡ no_mark) (sym e) (get_or-set_same ms id no_mark no_mark h.id_in)) ∙ sym q)
        | inr n ↦ (let t : (k == id) ≡ false = grind (arith, nat_tests) in let q : ltb (get_or turns2 k 0) count2 ≡ ltb (get_or turns1 k 0) count = rw t at f in
            ap (λ (x : Mark). x.present) (get_or-set_other ms id k no_mark no_mark n) ∙ o ∙ sym (q ∙ p))
      ]);
  within = elim (cases_lt hand1 hand) [
    | inl w ↦ omega (arith, h.more1, h.more2, h.clock.within)
    | inr w ↦ elim (cases_lt (get_or turns1 id 0) count) [
      | inl v ↦ omega (arith, h.last, h.more2)
      | inr v ↦ (let e = h.same v in omega (arith, h.less1, h.clock.within))
    ]
  ];
}

-- what the hand has yet to pass stays so
pub left_ahead : (ms : List Mark) (ring turns : List ℕ) (count hand id : ℕ) (ring1 turns1 : List ℕ) (hand1 : ℕ) (ring2 turns2 : List ℕ) (count2 : ℕ) → HasLeft ms ring turns count hand id ring1 turns1 hand1 ring2 turns2 count2
    → (k : ℕ) → IsPresent ms k → k ≢ id → ltb (get_or turns2 k 0) hand1 ≡ ltb (get_or turns k 0) hand
left_ahead ms ring turns count hand id ring1 turns1 hand1 ring2 turns2 count2 h k p n =
    let t = present_turn ms ring turns count hand h.clock k p in
    let m : k < length ms = present_in ms k p in
    let d : get_or turns1 k 0 ≢ get_or turns1 id 0 = apart_turns ring1 turns1 (length ms) k id h.cycle1 m h.id_in n in
    elim (cases_lt (get_or turns k 0) hand) [
      | inl w ↦
          (let a = h.near k m w in
          let q : (get_or turns1 k 0 < get_or turns1 id 0) × (get_or turns1 k 0 < hand1) = elim (cases_lt hand1 hand) [
            | inl v ↦ (let e = h.before v in (omega (arith, h.more1, a, d, e), omega (arith, h.more1, a, d, e)))
            | inr v ↦ (omega (arith, h.last, a, h.less1), omega (arith, a, h.less1))
          ] in
          let s = h.stay k m q.0 (omega (arith, q.1, h.less1, h.clock.within)) in
          lt_true (get_or turns2 k 0) hand1 (omega (arith, s, q.1)) ∙ sym (lt_true (get_or turns k 0) hand w))
      | inr w ↦
          (let a = h.far k m w in
          let c : get_or turns1 k 0 < count = omega (arith, a, t.0) in
          let q : hand1 ≤ get_or turns2 k 0 = elim (cases_lt (get_or turns1 k 0) (get_or turns1 id 0)) [
            | inl v ↦ (let s = h.stay k m v c in omega (arith, s, a, h.less1))
            | inr v ↦ (let b = h.beyond k m (omega (arith, d)) c in omega (arith, h.last, b))
          ] in
          lt_false (get_or turns2 k 0) hand1 q ∙ sym (lt_false (get_or turns k 0) hand w))
    ]
