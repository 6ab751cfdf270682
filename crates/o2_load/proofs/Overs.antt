-- The starts of linked modules are over these modules, and each segment has 1 to 65,536 bytes.
use Rattle.std.proofs.Common.{◌≡◌, ℕ, suc, ◌+◌, ◌-◌, ◌≤◌, ◌<◌, ◌==◌, Bool, true, false, cond, List, [], ◌∷◌, ◌++◌, length, replicate, if◌then◌else◌, Option, Some, None, ap, sym, ◌∙◌, refl, arith, subst, length-append, get_or}
use Rattle.std.specs.Prelude.{slice_get, option_map, map, not, ◌||◌, Ok}
use Rattle.std.specs.List.{All, AllByRecursion}
use Rattle.std.proofs.lemmas.List.Elements.{All-cons, All-nil, All-head, All-tail}
use Rattle.o2_conf.specs.declared.conf.Conf.{Conf}
use Rattle.o2_conf.specs.declared.process.Process.{Process}
use Rattle.o2_conf.specs.Environments.{environment_bytes}
use Rattle.o2_conf.specs.Limits.{HasEnvironment}
use Rattle.o2_isa.specs.View.{is_writable}
use Rattle.o2_ne_segs.specs.declared.segment.Segment.{Segment}
use Rattle.o2_ne_segs.specs.SegmentTable.{nth_segment, AllSized, HasSize}
use Rattle.o2_image.specs.Getters.{nth, nth_list}
use Rattle.o2_image.specs.ImageList.{ImageList, image_front}
use Rattle.o2_image.specs.Parts.{Parts}
use Rattle.o2_image.specs.Whole.{IsRunnable}
use Rattle.o2_dynlink.specs.Linking.{linked_of}
use Rattle.o2_dynlink.specs.Outcome.{LinkedParts, modules_of}
use Rattle.o2_world.specs.Starts.{Loaded, Holding, holding_of, module_holdings, library_holdings, loaded_bytes, nth_loaded}
use Rattle.o2_world.specs.FitStarts.{segment_at, rights_or_none, index_or_none, common_or_none, IsWhole, IsOf, AreOf}
use Rattle.o2_world.proofs.TiedChanges.{zeros_length}
use Rattle.o2_load.specs.Loads.{rights_of, is_shared, room_at, loaded_segment, loaded_segments, loaded_module, loaded, program_place, start_of, starts_of}
use Rattle.o2_load.proofs.Fits.{loaded_of, at_place, loaded_length, runnable_at, linked_modules}
use Rattle.o2_load.proofs.Images.{first_bytes_are, room_behind_fits, in_list, get_in}
use Rattle.o2_load.proofs.Sizes.{bytes_length, bytes_size}
use Rattle.o2_load.proofs.Wholes.{nth_is, front_length}

some_size : (b : Bool) (ss : List Segment) (n : ℕ) (s : Segment) → AllSized ss → (if b then None else slice_get ss (n - 1)) ≡ Some s → 1 ≤ s.size
some_size true ss n s all e = absurd (cc)
some_size false ss n s all e =
    let h : HasSize (get_or ss (n - 1) s) = all (n - 1) s (in_list ss (n - 1) s e) in
    (subst (λ (x : Segment). HasSize x) (get_in ss (n - 1) s e) h).0

nth_there : (images : ImageList) (place : ℕ) (m : Parts) (n : ℕ) (s : Segment) → nth_segment n m.segments ≡ Some s
    → nth_loaded n (loaded_segments images place m 1 m.segments) ≡ Some (loaded_segment images place m n s)
nth_there images place m n s e = nth_is images place m n m.segments ∙ ap (option_map (loaded_segment images place m n)) e

-- what isn't common can be written
own_writes : (writes common : Bool) → (not writes || common) ≡ false → writes ≡ true
own_writes true common e = refl
own_writes false common e = absurd (cc)

module _ (images : ImageList) (ms : List Parts) (same : modules_of images ≡ ms) (all : All IsRunnable ms) where
  one_whole : (place n : ℕ) (m : Parts) (s : Segment) → nth ms place ≡ Some m → nth_segment n m.segments ≡ Some s → IsWhole (loaded images) (holding_of (loaded_module images place m) n (loaded_segment images place m n s))
  one_whole place n m s at e =
      let runs = runnable_at ms place all m at in
      let size : length (loaded_bytes (loaded_module images place m) n (loaded_segment images place m n s)) ≡ s.size + room_at m n =
      ap (λ (xs : List ℕ). length xs) (sym (first_bytes_are images place n m s)) ∙ length-append (image_front images place n s.size) (replicate (room_at m n) 0) ∙ two (front_length images place n s.size) (zeros_length (room_at m n)) in
      let fits = room_behind_fits m n s runs e in
      let some = some_size (n == 0) m.segments n s runs.sizes e in
      let there : segment_at (loaded images) place n ≡ Some (loaded_segment images place m n s) =
      ap (λ (l : Loaded). nth_loaded n l.segments) (at_place images ms same place (Some m) at) ∙ nth_there images place m n s e in
      record {
        some = omega (arith, size, some);
        most = omega (arith, size, fits);
        rights = λ _. sym (ap rights_or_none there);
        shared = λ _. record { index = ap index_or_none there; common = ap common_or_none there };
        own = own_writes (is_writable (rights_of s.kind)) (is_shared m s);
      }
    where
      two : {a b c d : ℕ} → a ≡ c → b ≡ d → a + b ≡ c + d
      two e f = omega (arith, e, f)

  segments_whole : (place n : ℕ) (m : Parts) (ss : List Segment) → nth ms place ≡ Some m → ((k : ℕ) (s : Segment) → slice_get ss k ≡ Some s → nth_segment (n + k) m.segments ≡ Some s)
      → AllByRecursion (IsWhole (loaded images)) (module_holdings (loaded_module images place m) n (loaded_segments images place m n ss))
  segments_whole place n m [] at there = tt
  segments_whole place n m (s ∷ ss) at there =
      let number : n + 0 ≡ n = omega arith in (
        one_whole place n m s at (ap (λ (k : ℕ). nth_segment k m.segments) (sym number) ∙ there 0 s refl),
        segments_whole place (n + 1) m ss at (λ k x e. let next : n + 1 + k ≡ n + suc k = omega arith in ap (λ (j : ℕ). nth_segment j m.segments) next ∙ there (suc k) x e),
      )

  nth_next : (xs : List Segment) (k : ℕ) (s : Segment) → slice_get xs k ≡ Some s → nth_segment (1 + k) xs ≡ Some s
  nth_next xs k s e = go (1 + k == 0) (differs k) (1 + k - 1) (omega arith)
    where
      differs : (k : ℕ) → (1 + k == 0) ≡ false
      differs k = grind arith

      go : (b : Bool) → b ≡ false → (j : ℕ) → j ≡ k → cond b None (slice_get xs j) ≡ Some s
      go true f j same = absurd (cc)
      go false f j same = ap (slice_get xs) same ∙ e

  module_whole : (place : ℕ) (o : Option Parts) → nth ms place ≡ o → AllByRecursion (IsWhole (loaded images)) (module_holdings (loaded images place) 1 (loaded images place).segments)
  module_whole place None at = subst (λ (l : Loaded). AllByRecursion (IsWhole (loaded images)) (module_holdings l 1 l.segments)) (sym (at_place images ms same place None at)) tt
  module_whole place (Some m) at =
      subst (λ (l : Loaded). AllByRecursion (IsWhole (loaded images)) (module_holdings l 1 l.segments)) (sym (at_place images ms same place (Some m) at))
      (segments_whole place 1 m m.segments at (λ k s e. nth_next m.segments k s e))

  both : (xs ys : List Holding) → AllByRecursion (IsWhole (loaded images)) xs → AllByRecursion (IsWhole (loaded images)) ys → AllByRecursion (IsWhole (loaded images)) (xs ++ ys)
  both [] ys a b = b
  both (x ∷ xs) ys a b = (a.0, both xs ys a.1 b)

  libraries_whole : (places : List ℕ) → AllByRecursion (IsWhole (loaded images)) (library_holdings (map (loaded images) places))
  libraries_whole [] = tt
  libraries_whole (place ∷ places) = both (module_holdings (loaded images place) 1 (loaded images place).segments) _ (module_whole place (nth ms place) refl) (libraries_whole places)

-- an environment has an index of its process's own region
few_there : (images : ImageList) (place : ℕ) (o : Option Parts) → ((m : Parts) → o ≡ Some m → IsRunnable m) → length (loaded_of images place o).segments ≤ 254
few_there images place None runnable = omega arith
few_there images place (Some m) runnable = let few = (runnable m refl).few in let size = loaded_length images place m 1 m.segments in omega (arith, few, size)

few_segments : (images : ImageList) (ms : List Parts) (same : modules_of images ≡ ms) (all : All IsRunnable ms) (place : ℕ) → length (loaded images place).segments ≤ 254
few_segments images ms same all place =
    subst (λ (l : Loaded). length l.segments ≤ 254) (sym (at_place images ms same place (nth ms place) refl))
    (few_there images place (nth ms place) (λ m e. runnable_at ms place all m e))

environment_some : (p : Process) → 0 < length (environment_bytes p)
environment_some p = let h = bytes_length p in omega (arith, h)

one_over : (l : LinkedParts) (ms : List Parts) → modules_of l.images ≡ ms → All IsRunnable ms → (pid : ℕ) (p : Process) → HasEnvironment p → IsOf (loaded l.images) (start_of l pid p)
one_over l ms same all pid p fits number =
    both l.images ms same all (module_holdings (loaded l.images (program_place l pid)) 1 (loaded l.images (program_place l pid)).segments) _
    (module_whole l.images ms same all (program_place l pid) (nth ms (program_place l pid)) refl) (
      record {
        some = environment_some p;
        most = bytes_size p fits;
        rights = λ common. absurd (let no : false ≡ true = common in cc);
        shared = λ big. absurd (let few = few_segments l.images ms same all (program_place l pid) in omega (arith, big, few));
        own = λ _. refl;
      },
      libraries_whole l.images ms same all (nth_list l.libraries pid),
    )

all_over : (l : LinkedParts) (ms : List Parts) → modules_of l.images ≡ ms → All IsRunnable ms → (pid : ℕ) (ps : List Process) → All HasEnvironment ps → AreOf (loaded l.images) (starts_of l pid ps)
all_over l ms same all pid [] fits = All-nil (IsOf (loaded l.images))
all_over l ms same all pid (p ∷ ps) fits =
    All-cons (IsOf (loaded l.images)) (start_of l pid p) (starts_of l (pid + 1) ps) (one_over l ms same all pid p (All-head HasEnvironment p ps fits)) (all_over l ms same all (pid + 1) ps (All-tail HasEnvironment p ps fits))

pub linked_starts_over : (ms : List Parts) (c : Conf) (l : LinkedParts) → All IsRunnable ms → All HasEnvironment c.process → linked_of ms c ≡ Ok l → AreOf (loaded l.images) (starts_of l 1 c.process)
linked_starts_over ms c l all fits e = all_over l ms (linked_modules ms c l e) all 1 c.process fits
