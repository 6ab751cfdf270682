-- What is known of a world is known of the machine.
use Rattle.std.proofs.Common.{◌≡◌, ℕ, zero, suc, Bool, Option, Some, None, refl, sym, ap, ◌∙◌, arith, option_map}
use Rattle.o2_regions.specs.declared.held.Region.{Region}
use Rattle.o2_regions.specs.declared.held.Region.TheVariants.{Private, Shared}
use Rattle.o2_regions.specs.Maps.{Maps, is_taken}
use Rattle.o2_segbus.specs.Seen.{key_of}
use Rattle.o2_world.specs.Map.{get}
use Rattle.o2_world.specs.World.{Process, Segment, Setting, World}
use Rattle.o2_world.specs.Holders.{process_at}
use Rattle.o2_world.specs.Known.{Marks, known_of, lives_at, marks_of}
use Rattle.o2_stands.specs.Parts.{Parts, goes_on, running_of}
use Rattle.o2_stands.specs.Stands.{AreLawful, IsIndex, IsNamed, IsSetTo, Stands, number_of}
use Rattle.o2_stands.specs.Knows.{KnowsAs, Others, code_of, known_in, marks_under, others_of, region_by}
use Rattle.o2_stands.proofs.Rooms.{count_is}

abbrev made : (size : ℕ) (clean code : Bool) (flags lock : ℕ) (shared discarded : Bool) → Marks
made size clean code flags lock shared discarded = record { size = size; clean = clean; code = code; flags = flags; lock = lock; shared = shared; discarded = discarded }

-- marks are the same where each is
same_marks : (s s2 : ℕ) (c c2 d d2 : Bool) (f f2 l l2 : ℕ) (h h2 x x2 : Bool) → s ≡ s2 → c ≡ c2 → d ≡ d2 → f ≡ f2 → l ≡ l2 → h ≡ h2 → x ≡ x2
    → made s c d f l h x ≡ made s2 c2 d2 f2 l2 h2 x2
same_marks s s2 c c2 d d2 f f2 l l2 h h2 x x2 a b e g i j k =
    ap (λ (z : ℕ). made z c d f l h x) a
    ∙ (ap (λ (z : Bool). made s2 z d f l h x) b
    ∙ (ap (λ (z : Bool). made s2 c2 z f l h x) e
    ∙ (ap (λ (z : ℕ). made s2 c2 d2 z l h x) g
    ∙ (ap (λ (z : ℕ). made s2 c2 d2 f2 z h x) i
    ∙ (ap (λ (z : Bool). made s2 c2 d2 f2 l2 z x) j
    ∙ ap (λ (z : Bool). made s2 c2 d2 f2 l2 h2 z) k)))))

lives_on : (o : Option Process) → lives_at o ≡ goes_on (option_map running_of o)
lives_on None = refl
lives_on (Some p) = refl

region_is : (m : Maps) (g : Region) (i : ℕ) → IsIndex m g i → region_by (number_of g) ≡ g
region_is m (Private zero) i x = absurd (let l = x.region.0 in omega (arith, l))
region_is m (Private (suc n)) i x = refl
region_is m Shared i x = refl

module _ (p : Parts) (s : Setting) (w : World) (lawful : AreLawful p.shelf p.maps) (set : IsSetTo p s) (stands : Stands p w) where
  marked : (n : ℕ) (o : Option ℕ) (v : Option Segment) → IsNamed p o v → (o2 : Others) → o2.code n ≡ code_of v → option_map marks_of v ≡ option_map (marks_under p o2 n) o
  marked n None None is o2 c = refl
  marked n (Some k) None is o2 c = absurd is
  marked n None (Some x) is o2 c = absurd is
  marked n (Some k) (Some x) is o2 c = ap Some (same_marks _ _ _ _ _ _ _ _ _ _ _ _ _ _ is.size is.clean (sym c) is.flags is.lock is.shared is.discarded)

  pub known_is : KnowsAs p.maps (known_of s w) (known_in p (others_of s w))
  known_is = record {
    held = stands.held;
    segment = λ n. marked n (key_of p.shelf n) (get w.names n) (stands.segments n) (others_of s w) refl;
    taken = λ g i x. stands.taken g i x ∙ ap (λ (r : Region). is_taken p.maps r i) (sym (region_is p.maps g i x));
    text = λ t. refl;
    lives = λ n. lives_on (process_at w.processes n) ∙ ap goes_on (stands.processes n);
    processes = refl;
    count = count_is p w.processes w.names w.next_name w.reserved lawful stands;
    most = sym set.segments;
    next = stands.made;
    avail = refl;
  }
