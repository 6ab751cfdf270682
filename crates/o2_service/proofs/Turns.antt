-- Segments leave the memory one after the other, each in its turn.
use Rattle.std.proofs.Common.{◌≡◌, ◌≢◌, ℕ, ◌+◌, ◌<◌, List, [], ◌∷◌, ◌++◌, None, is_some, IsSome, refl, sym, ap, ◌∙◌, subst}
use Rattle.o2_place.specs.declared.seg_id.SegId.{SegId}
use Rattle.o2_place.specs.Layout.{len_of, used}
use Rattle.o2_store.specs.Shelf.{SameTables, Shelf, entry, place_of, rounded}
use Rattle.o2_store.specs.Victims.{HasLeft, IsNextOut, LeaveInTurn, TakeTurns, TakesNext, last_of}
use Rattle.o2_store.proofs.Victims.{next_unkeyed}

-- one has left, and the clock is told of it
pub takes_next : (s t u : Shelf) (key : ℕ) (keep : List SegId) (len : ℕ) (out : SegId) → t ≡ record s { turns = t.turns; keys = t.keys } → IsNextOut s t.turns key keep out → s.places.size < used s.places.ranges + len
    → place_of u out.key ≡ None → ((k : ℕ) → k ≢ out.key → place_of u k ≡ place_of t k) → (IsSome (place_of t out.key) → used u.places.ranges + len_of (place_of t out.key) ≡ used t.places.ranges) → SameTables s u
    → (IsSome (place_of t out.key) → HasLeft t.turns u.turns out.key) → TakesNext key keep len s u
takes_next s t u key keep len out e next short gone others load tables left = record {
  out = out;
  passed = t.turns;
  next = next;
  short = short;
  gone = gone;
  others = λ k n. others k n ∙ ap (λ (z : Shelf). place_of z k) e;
  load = subst (λ (z : Shelf). used u.places.ranges + len_of (place_of z out.key) ≡ used z.places.ranges) e (load (ap is_some (ap (λ (z : Shelf). place_of z out.key) e) ∙ next.may.here));
  tables = tables;
  left = left (ap is_some (ap (λ (z : Shelf). place_of z out.key) e) ∙ next.may.here);
}

-- so far these have left, up to a shelf
pub record HasTaken (key : ℕ) (keep : List SegId) (len : ℕ) (s t : Shelf) : Type 0 where
  pub later : List Shelf
  pub turns : TakeTurns key keep len s later
  pub last : last_of s later ≡ t

pub taken_nobody : (key : ℕ) (keep : List SegId) (len : ℕ) (s : Shelf) → HasTaken key keep len s s
taken_nobody key keep len s = record { later = []; turns = tt; last = refl }

turns_behind : (key : ℕ) (keep : List SegId) (len : ℕ) (s : Shelf) (later : List Shelf) (u : Shelf) → TakeTurns key keep len s later → TakesNext key keep len (last_of s later) u → TakeTurns key keep len s (later ++ (u ∷ []))
turns_behind key keep len s [] u w n = (n, tt)
turns_behind key keep len s (t ∷ later) u w n = (w.0, turns_behind key keep len t later u w.1 n)

last_behind : (s : Shelf) (later : List Shelf) (u : Shelf) → last_of s (later ++ (u ∷ [])) ≡ u
last_behind s [] u = refl
last_behind s (t ∷ later) u = last_behind t later u

pub taken_next : (key : ℕ) (keep : List SegId) (len : ℕ) (s t u : Shelf) → HasTaken key keep len s t → TakesNext key keep len t u → HasTaken key keep len s u
taken_next key keep len s t u w n = record {
  later = w.later ++ (u ∷ []);
  turns = turns_behind key keep len s w.later u w.turns (subst (λ (z : Shelf). TakesNext key keep len z u) (sym w.last) n);
  last = last_behind s w.later u;
}

-- and no other has left
pub taken_all : (key : ℕ) (keep : List SegId) (len : ℕ) (s t u : Shelf) → HasTaken key keep len s t → ((k : ℕ) → k ≢ key → is_some (place_of u k) ≡ is_some (place_of t k)) → LeaveInTurn key keep len s u
taken_all key keep len s t u w same = record { later = w.later; turns = w.turns; others = λ k n. same k n ∙ ap (λ (z : Shelf). is_some (place_of z k)) (sym w.last) }

pub leave_then : (key : ℕ) (keep : List SegId) (len : ℕ) (s t u : Shelf) → LeaveInTurn key keep len s t → ((k : ℕ) → k ≢ key → is_some (place_of u k) ≡ is_some (place_of t k)) → LeaveInTurn key keep len s u
leave_then key keep len s t u w same = record { later = w.later; turns = w.turns; others = λ k n. same k n ∙ w.others k n }

pub nobody_leaves : (key : ℕ) (keep : List SegId) (len : ℕ) (s u : Shelf) → ((k : ℕ) → place_of u k ≡ place_of s k) → LeaveInTurn key keep len s u
nobody_leaves key keep len s u same = record { later = []; turns = tt; others = λ k n. ap is_some (same k) }

-- the numbers of a call don't matter
takes_unkeyed : (s : Shelf) (ks : List ℕ) (key : ℕ) (keep : List SegId) (len : ℕ) (t : Shelf) → TakesNext key keep len (record s { keys = ks }) t → TakesNext key keep len s t
takes_unkeyed s ks key keep len t w = record {
  out = w.out;
  passed = w.passed;
  next = next_unkeyed s ks w.passed key keep w.out w.next;
  short = w.short;
  gone = w.gone;
  others = w.others;
  load = w.load;
  tables = record { same = w.tables.same; count = w.tables.count; made = w.tables.made; size = w.tables.size };
  left = w.left;
}

pub leave_unkeyed : (s t u : Shelf) (key : ℕ) (keep : List SegId) → t ≡ record s { keys = t.keys } → LeaveInTurn key keep (rounded (entry t key).size) t u → LeaveInTurn key keep (rounded (entry s key).size) s u
leave_unkeyed s t u key keep e w =
    let x : LeaveInTurn key keep (rounded (entry s key).size) (record s { keys = t.keys }) u = subst (λ (z : Shelf). LeaveInTurn key keep (rounded (entry z key).size) z u) e w in
    go x.later x.turns x.others
  where
    go : (later : List Shelf) → TakeTurns key keep (rounded (entry s key).size) (record s { keys = t.keys }) later → ((k : ℕ) → k ≢ key → is_some (place_of u k) ≡ is_some (place_of (last_of (record s { keys = t.keys }) later) k))
        → LeaveInTurn key keep (rounded (entry s key).size) s u
    go [] w f = record { later = []; turns = tt; others = f }
    go (v ∷ later) w f = record { later = v ∷ later; turns = (takes_unkeyed s t.keys key keep (rounded (entry s key).size) v w.0, w.1); others = f }
