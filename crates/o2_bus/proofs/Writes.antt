-- A write, as the view sees it.
use Rattle.std.proofs.Common.{◌≡◌, ◌≢◌, refl, sym, ◌∙◌, ap, subst, ℕ, zero, suc, ◌+◌, ◌<◌, ◌≤◌, Bool, true, false, cond, ◌==◌, List, [], ◌∷◌, length, set, arith}
use Rattle.std.specs.Prelude.{Option, Some, None, Result, Ok, Err, IsOk, slice_get, nat_le}
use Rattle.std.specs.Borrow.{GName}
use Rattle.std.proofs.lemmas.Bool.{eqb-true, eq-eqb, leb-true, false≢true}
use mathlib.Core.Path.{fun_ext}
use Rattle.o2_isa.specs.declared.instr.Width.{Width}
use Rattle.o2_isa.specs.declared.instr.Width.TheVariants.{Byte, Word}
use Rattle.o2_isa.specs.declared.instr.Sreg.{Sreg}
use Rattle.o2_isa.specs.View.{View, Hold, in_register, is_writable, reached, room_of, poke, poke_hold, with_bytes, put_at, width_len, outside}
use Rattle.o2_isa.proofs.Pokes.{length_put_at}
use Rattle.o2_bus.specs.declared.plain.Plain.{Plain}
use Rattle.o2_bus.specs.declared.plain.Grant.{Grant}
use Rattle.o2_bus.specs.declared.segment.Segment.{Segment}
use Rattle.o2_bus.specs.declared.plain_bus.Holds.{Holds}
use Rattle.o2_isa.specs.View.{simple_view, no_rest, no_hidden}
use Rattle.o2_isa.specs.Presence.{with_unseen}
use Rattle.o2_bus.specs.declared.plain.Map.{Map}
use Rattle.o2_bus.specs.Plain.{in_map, is_shown, hold_of, held_in, bytes_in, shown_in, count_in, segment_bytes, registers_of, bus_view, PutsBytes}

get_set_same : (xs : List Segment) (i : ℕ) (x : Segment) → i < length xs → slice_get (set xs i x) i ≡ Some x
get_set_same [] i x h = absurd (omega arith)
get_set_same (y ∷ ys) zero x h = refl
get_set_same (y ∷ ys) (suc i) x h = get_set_same ys i x (omega arith)

get_set_other : (xs : List Segment) (i k : ℕ) (x : Segment) → k ≢ i → slice_get (set xs i x) k ≡ slice_get xs k
get_set_other [] i k x h = refl
get_set_other (y ∷ ys) zero zero x h = absurd (h refl)
get_set_other (y ∷ ys) zero (suc k) x h = refl
get_set_other (y ∷ ys) (suc i) zero x h = refl
get_set_other (y ∷ ys) (suc i) (suc k) x h = get_set_other ys i k x (λ e. h (ap suc e))

-- What has room has a hold, and its bytes reach so far.
chosen_ok : (b : Bool) (r : Result ℕ (ℕ × ℕ)) (e : ℕ × ℕ) → IsOk (cond b r (Err e)) → (b ≡ true) × IsOk r
chosen_ok true r e h = (refl, h)
chosen_ok false r e h = absurd (false≢true h)

room_reaches : (v : View) (o : Hold) (r : Sreg) (k : ℕ) (w : Width) → IsOk (reached (Some o) is_writable v r k w) → k + width_len w ≤ length (v.bytes o.name)
room_reaches v o r k w h =
    let c = chosen_ok (is_writable o.rights) _ _ h in
    let d = chosen_ok (nat_le (k + width_len w) (length (v.bytes o.name))) (Ok o.name) (outside r) c.1 in
    leb-true _ _ d.0

pub room_of_grant : (nm : GName) (p : Plain) (pid : ℕ) (h : Holds) (g : Grant) (r : Sreg) (k : ℕ) (w : Width) → Some (hold_of g)
    ≡ in_register (registers_of h) r → IsOk (room_of (bus_view nm p pid h) r k w)
    → k + width_len w ≤ length (segment_bytes (slice_get p.segments.items g.name))
unfolding room_of bus_view bytes_in
room_of_grant nm p pid h g r k w e room =
    room_reaches (bus_view nm p pid h) (hold_of g) r k w (subst (λ (o : Option Hold). IsOk (reached o is_writable (bus_view nm p pid h) r k w)) (sym e) room)

-- what has room is data that can be written
pub room_is_writable : (nm : GName) (p : Plain) (pid : ℕ) (h : Holds) (g : Grant) (r : Sreg) (k : ℕ) (w : Width) → Some (hold_of g) ≡ in_register (registers_of h) r → IsOk (room_of (bus_view nm p pid h) r k w) → is_writable g.access ≡ true
unfolding room_of bus_view
room_is_writable nm p pid h g r k w e room =
    (chosen_ok (is_writable g.access) _ _ (subst (λ (o : Option Hold). IsOk (reached o is_writable (bus_view nm p pid h) r k w)) (sym e) room)).0

pub name_within : (xs : List Segment) (n k : ℕ) → k + 1 ≤ length (segment_bytes (slice_get xs n)) → n < length xs
name_within [] n k h = absurd (omega arith)
name_within (x ∷ xs) zero k h = omega arith
name_within (x ∷ xs) (suc n) k h = omega (arith, name_within xs n k h)

width_pos : (w : Width) (k n : ℕ) → k + width_len w ≤ n → k + 1 ≤ n
width_pos Byte k n h = h
width_pos Word k n h = omega arith

pub grant_within : (nm : GName) (p : Plain) (pid : ℕ) (h : Holds) (g : Grant) (r : Sreg) (k : ℕ) (w : Width) → Some (hold_of g) ≡ in_register (registers_of h) r → IsOk (room_of (bus_view nm p pid h) r k w) → g.name < length p.segments.items
grant_within nm p pid h g r k w e room = name_within p.segments.items g.name k (width_pos w k _ (room_of_grant nm p pid h g r k w e room))

-- the view with other sizes, marks, bytes and number of names
abbrev built : View → (ℕ → ℕ) → (ℕ → Bool) → (ℕ → List ℕ) → ℕ → View
built v s p b m = record v { size = s; present = p; bytes = b; rest = record v.rest { most = m } }

same_view : (v : View) (s t : ℕ → ℕ) (p q : ℕ → Bool) (b d : ℕ → List ℕ) (m n : ℕ) → ((k : ℕ) → s k ≡ t k) → ((k : ℕ) → p k ≡ q k) → ((k : ℕ) → b k ≡ d k) → m ≡ n → built v s p b m ≡ built v t q d n
same_view v s t p q b d m n e f g h =
    ap (λ (z : ℕ → ℕ). built v z p b m) (fun_ext e)
    ∙ (ap (λ (z : ℕ → Bool). built v t z b m) (fun_ext f) ∙ (ap (λ (z : ℕ → List ℕ). built v t q z m) (fun_ext g) ∙ ap (built v t q d) h))

pub bytes_after : (xs ys : List Segment) (n : ℕ) (bs : List ℕ) → PutsBytes xs ys n bs → (m : ℕ) → segment_bytes (slice_get ys m) ≡ cond (m == n) bs (segment_bytes (slice_get xs m))
bytes_after xs ys n bs h m = go (m == n) refl
  where
    go : (b : Bool) → (m == n) ≡ b → segment_bytes (slice_get ys m) ≡ cond b bs (segment_bytes (slice_get xs m))
    go true e = ap (λ (j : ℕ). segment_bytes (slice_get ys j)) (eqb-true m n e) ∙ h.put
    go false e = ap segment_bytes (h.others m (λ q. false≢true (sym e ∙ eq-eqb m n q)))

pub size_after : (xs ys : List Segment) (n : ℕ) (bs : List ℕ) → PutsBytes xs ys n bs → length bs ≡ length (segment_bytes (slice_get xs n)) → (m : ℕ) → length (segment_bytes (slice_get ys m)) ≡ length (segment_bytes (slice_get xs m))
size_after xs ys n bs h e m = go (m == n) refl
  where
    go : (b : Bool) → (m == n) ≡ b → length (segment_bytes (slice_get ys m)) ≡ length (segment_bytes (slice_get xs m))
    go true t = ap (λ (j : ℕ). length (segment_bytes (slice_get ys j))) (eqb-true m n t) ∙ (ap length h.put ∙ (e ∙ ap (λ (j : ℕ). length (segment_bytes (slice_get xs j))) (sym (eqb-true m n t))))
    go false t = ap (λ o. length (segment_bytes o)) (h.others m (λ q. false≢true (sym t ∙ eq-eqb m n q)))

-- what a bus shows of these maps and segments
abbrev list_view : GName → List Map → List Segment → ℕ → Holds → View
list_view nm ms xs pid h = with_unseen (record no_rest { maps = λ q i. in_map (slice_get ms q) i; most = length xs }) (record no_hidden { store = Some nm })
    (simple_view (λ i. in_map (slice_get ms pid) i) (λ n. is_shown (slice_get xs n)) (λ n. segment_bytes (slice_get xs n)) (registers_of h))

pub view_after : (nm : GName) (p q : Plain) (pid : ℕ) (h : Holds) (g : Grant) (r : Sreg) (k : ℕ) (w : Width) (x : ℕ) → Some (hold_of g) ≡ in_register (registers_of h) r → is_writable g.access ≡ true → q.maps.items ≡ p.maps.items
    → PutsBytes p.segments.items q.segments.items g.name (put_at (segment_bytes (slice_get p.segments.items g.name)) k w x) → bus_view nm q pid h ≡ poke (bus_view nm p pid h) r k w x
unfolding bus_view held_in bytes_in shown_in count_in poke
view_after nm p q pid h g r k w x e writable maps puts_it =
    ap (λ (ms : List Map). list_view nm ms q.segments.items pid h) maps
    ∙ same_view (bus_view nm p pid h) _ _ _ _ _ _ _ _
    (size_after _ _ _ _ puts_it (length_put_at (segment_bytes (slice_get p.segments.items g.name)) k w x))
    puts_it.same_shown
    (bytes_after _ _ _ _ puts_it)
    puts_it.same_count
    ∙ ap (λ (b : Bool). cond b (with_bytes (bus_view nm p pid h) g.name (put_at ((bus_view nm p pid h).bytes g.name) k w x)) (bus_view nm p pid h)) (sym writable)
    ∙ ap (λ (o : Option Hold). poke_hold (bus_view nm p pid h) o k w x) e

-- what has room has a hold
pub no_room_without : (nm : GName) (p : Plain) (pid : ℕ) (h : Holds) (r : Sreg) (k : ℕ) (w : Width) → None ≡ in_register (registers_of h) r → IsOk (room_of (bus_view nm p pid h) r k w) → ⊥
unfolding room_of bus_view
no_room_without nm p pid h r k w e room = false≢true (subst (λ (o : Option Hold). IsOk (reached o is_writable (bus_view nm p pid h) r k w)) (sym e) room)
