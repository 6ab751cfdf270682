-- The starts of linked modules are fit: a program's segments have their numbers as indexes, the environment comes behind them,
-- and the libraries' segments follow one another from index 4096 on.
use Rattle.std.proofs.Common.{◌≡◌, ◌≢◌, ℕ, zero, suc, ◌+◌, ◌-◌, ◌≤◌, ◌<◌, ◌==◌, ◌&&◌, ◌||◌, Bool, true, false, cond, List, [], ◌∷◌, ◌++◌, length, get_or, Option, Some, None, ap, sym, ◌∙◌, refl, arith, subst, Result, Ok, Err}
use Rattle.std.specs.Prelude.{slice_get, option_map, unwrap_or, map, flat_map, IsTrue}
use Rattle.std.specs.List.{All, list_any}
use Rattle.std.proofs.lemmas.List.Elements.{All-cons, All-nil, All-get_or}
use Rattle.std.proofs.lemmas.Option.{get_or_from_slice_get, slice_get-map, slice_get_within}
use Rattle.o2_isa.specs.View.{is_readable}
use Rattle.o2_conf.specs.declared.conf.Conf.{Conf}
use Rattle.o2_conf.specs.declared.process.Process.{Process}
use Rattle.o2_ne.specs.Checks.{◌>>=◌}
use Rattle.o2_ne.specs.Steps.{over}
use Rattle.o2_ne_segs.specs.declared.segment.Kind.{Kind}
use Rattle.o2_ne_segs.specs.declared.segment.Kind.TheVariants.{Code, CodeOnly, Writable, ReadOnly}
use Rattle.o2_ne_segs.specs.declared.segment.Segment.{Segment}
use Rattle.o2_ne_segs.specs.SegmentTable.{nth_segment}
use Rattle.o2_image.specs.Getters.{is_library, nth, nth_list, list_or_none}
use Rattle.o2_image.specs.ImageList.{ImageList, Resolution}
use Rattle.o2_image.specs.Modules.{is_writable}
use Rattle.o2_image.specs.Parts.{Parts}
use Rattle.o2_image.specs.Whole.{IsRunnable}
use Rattle.o2_dynlink.specs.declared.fault.LinkFault.{LinkFault}
use Rattle.o2_dynlink.specs.Imports.{each}
use Rattle.o2_dynlink.specs.Linking.{name_step, module_step, region_step, program_of, outcome, linked_of, shim_of}
use Rattle.o2_dynlink.specs.Outcome.{LinkedParts, Fitting, Targets, modules_of}
use Rattle.o2_dynlink.specs.Reached.{refers, reaches, marked, reached_by, libraries_of}
use Rattle.o2_dynlink.specs.Selectors.{shared_after, base_after, bases_from, bases_of, base_at, index_of}
use Rattle.o2_dynlink.proofs.Consistent.{fitting, fitting_modules}
use Rattle.o2_dynlink.proofs.Indexes.{nth_some, index_is}
use Rattle.o2_world.specs.Starts.{Loaded, LoadedSegment, Start, nth_loaded}
use Rattle.o2_world.specs.FitStarts.{module_indexes, held_indexes, IsFit, AreFit}
use Rattle.o2_world.proofs.Keeps.{some_is}
use Rattle.o2_load.specs.Loads.{rights_of, index_at, loaded_segment, loaded_segments, loaded_module, no_module, loaded_at, loaded, program_place, start_of, starts_of}
use Rattle.o2_load.specs.Rises.{AreRising, Rises}
use Rattle.o2_load.proofs.Rising.{numbers, rises_from, rises_behind, rising_distinct}

-- The module at a place.

abbrev pub loaded_of : ImageList → ℕ → Option Parts → Loaded
loaded_of images place None = no_module
loaded_of images place (Some m) = loaded_module images place m

loaded_is : (images : ImageList) (place : ℕ) (o : Option Resolution) → loaded_at images place o ≡ loaded_of images place (option_map (λ (r : Resolution). r.0) o)
loaded_is images place None = refl
loaded_is images place (Some r) = refl

nth-map : {X Y : Type 0} (f : X → Y) (xs : List X) (n : ℕ) → nth (map f xs) n ≡ option_map f (nth xs n)
nth-map f xs n = go (n == 0)
  where
    go : (t : Bool) → cond t None (slice_get (map f xs) (n - 1)) ≡ option_map f (cond t None (slice_get xs (n - 1)))
    go true = refl
    go false = slice_get-map f xs (n - 1)

nth_after : {X : Type 0} (xs : List X) (k : ℕ) (x : X) → slice_get xs k ≡ Some x → nth xs (1 + k) ≡ Some x
nth_after xs k x e = go (1 + k == 0) (1 + k - 1) (differs k) (omega arith)
  where
    differs : (n : ℕ) → (1 + n == 0) ≡ false
    differs n = grind arith

    go : (t : Bool) (j : ℕ) → t ≡ false → j ≡ k → cond t None (slice_get xs j) ≡ Some x
    go true j f same = cc
    go false j f same = ap (slice_get xs) same ∙ e

zero_is : (n : ℕ) → (n == 0) ≡ true → n ≡ 0
zero_is n e = grind arith

-- The indexes of its segments.

pub loaded_length : (images : ImageList) (place : ℕ) (m : Parts) (n : ℕ) (ss : List Segment) → length (loaded_segments images place m n ss) ≡ length ss
loaded_length images place m n [] = refl
loaded_length images place m n (s ∷ ss) = ap suc (loaded_length images place m (n + 1) ss)

-- segment n + k of a module, where the segments from n on are given
pub record IsLoaded (images : ImageList) (place : ℕ) (ss : List Segment) (n k : ℕ) (x : LoadedSegment) : Type 0 where
  pub segment : Segment
  pub there : slice_get ss k ≡ Some segment
  pub index : x.index ≡ index_at images place (n + k)
  pub rights : x.rights ≡ rights_of segment.kind

pub is_loaded : (images : ImageList) (place : ℕ) (m : Parts) (n : ℕ) (ss : List Segment) (k : ℕ) (x : LoadedSegment) → slice_get (loaded_segments images place m n ss) k ≡ Some x → IsLoaded images place ss n k x
is_loaded images place m n [] k x e = absurd (cc)
is_loaded images place m n (s ∷ ss) zero x e =
    let same = some_is (loaded_segment images place m n s) x (Some (loaded_segment images place m n s)) refl e in
    let number : n ≡ n + 0 = omega arith in
    record {
      segment = s;
      there = refl;
      index = ap (λ (y : LoadedSegment). y.index) (sym same) ∙ ap (index_at images place) number;
      rights = ap (λ (y : LoadedSegment). y.rights) (sym same);
    }
is_loaded images place m n (s ∷ ss) (suc k) x e =
    let below = is_loaded images place m (n + 1) ss k x e in
    let number : n + 1 + k ≡ n + suc k = omega arith in
    record { segment = below.segment; there = below.there; index = below.index ∙ ap (index_at images place) number; rights = below.rights }

nth_from : (n : ℕ) (ss : List Segment) (s : Segment) → n ≢ 0 → slice_get ss (n - 1) ≡ Some s → nth_segment n ss ≡ Some s
nth_from n ss s some e = go (n == 0) refl
  where
    go : (t : Bool) → (n == 0) ≡ t → cond t None (slice_get ss (n - 1)) ≡ Some s
    go true is = absurd (some (zero_is n is))
    go false is = e

pub none_there : (n : ℕ) (x : LoadedSegment) → nth_loaded n [] ≡ Some x → ⊥
none_there n x h = go (n == 0) h
  where
    go : (t : Bool) → cond t None (slice_get [] (n - 1)) ≡ Some x → ⊥
    go true e = absurd (let no : ◌≡◌ {A = Option LoadedSegment} None (Some x) = e in cc)
    go false e = absurd (let no : ◌≡◌ {A = Option LoadedSegment} None (Some x) = e in cc)

writable_reads : (k : Kind) → IsTrue (is_writable k) → is_readable (rights_of k) ≡ true
writable_reads Code e = cc
writable_reads CodeOnly e = cc
writable_reads Writable e = refl
writable_reads ReadOnly e = cc

pub program_base : (used : ℕ) (ms : List Parts) (k : ℕ) (m : Parts) → slice_get ms k ≡ Some m → is_library m ≡ false → get_or (bases_from used ms) k 0 ≡ 0
program_base used [] k m e is = refl
program_base used (a ∷ ms) zero m e is =
    ap (λ (t : Bool). cond t (4095 + used) 0) (ap is_library (some_is a m (Some a) refl e) ∙ is)
program_base used (a ∷ ms) (suc k) m e is = program_base (shared_after used a) ms k m e is

-- Libraries are what a module reaches.

and_first : (a b : Bool) → (a && b) ≡ true → a ≡ true
and_first true b e = refl
and_first false b e = cc

and_second : (a b : Bool) → (a && b) ≡ true → b ≡ true
and_second true b e = e
and_second false b e = cc

or_either : {P : Type 0} (a b : Bool) → (a || b) ≡ true → (a ≡ true → P) → (b ≡ true → P) → P
or_either true b e f g = f refl
or_either false b e f g = g e

any_refers : (shim : Option (List ℕ)) (g : Parts → Bool) (l : Parts) (ks : List Parts) → list_any (λ k. g k && refers shim k l) ks ≡ true → is_library l ≡ true
any_refers shim g l [] e = cc
any_refers shim g l (k ∷ ks) e = or_either (g k && refers shim k l) _ e (λ h. and_first _ _ (and_second (g k) (refers shim k l) h)) (any_refers shim g l ks)

reached_library : (shim : Option (List ℕ)) (ms : List Parts) (n : ℕ) (m l : Parts) → reaches shim ms n m l ≡ true → is_library l ≡ true
reached_library shim ms zero m l e = and_first _ _ e
reached_library shim ms (suc n) m l e = or_either (refers shim m l) _ e (λ h. and_first _ _ h) (any_refers shim (reaches shim ms n m) l ms)

-- the indexes of the segments of the modules at some places
abbrev indexes_at : ImageList → List ℕ → List ℕ
indexes_at images places = flat_map module_indexes (map (loaded images) places)

one_rises : (images : ImageList) (used place : ℕ) (m : Parts) (marks : List Bool) (t l : Bool) → is_library m ≡ l → (t ≡ true → l ≡ true)
    → module_indexes (loaded images place) ≡ numbers (base_after used m + 1) (length m.segments)
    → Rises (4096 + shared_after used m) (indexes_at images (marked (place + 1) marks)) → Rises (4096 + used) (indexes_at images (marked place (t ∷ marks)))
one_rises images used place m marks true false is h e r = let no : false ≡ true = h refl in cc
one_rises images used place m marks true true is h e r =
    let base : base_after used m ≡ 4095 + used = ap (λ (t : Bool). cond t (4095 + used) 0) is in
    let shared : shared_after used m ≡ used + length m.segments = ap (λ (t : Bool). cond t (used + length m.segments) used) is in
    let rest : List ℕ = indexes_at images (marked (place + 1) marks) in
    subst (λ (ns : List ℕ). Rises (4096 + used) (ns ++ rest)) (sym e)
    (rises_behind (4096 + used) (base_after used m + 1) (length m.segments) rest (omega (arith, base))
    (rises_from (base_after used m + 1 + length m.segments) (4096 + shared_after used m) rest (omega (arith, base, shared)) r))
one_rises images used place m marks false true is h e r =
    let shared : shared_after used m ≡ used + length m.segments = ap (λ (t : Bool). cond t (used + length m.segments) used) is in
    rises_from (4096 + used) (4096 + shared_after used m) _ (omega (arith, shared)) r
one_rises images used place m marks false false is h e r =
    let shared : shared_after used m ≡ used = ap (λ (t : Bool). cond t (used + length m.segments) used) is in
    rises_from (4096 + used) (4096 + shared_after used m) _ (omega (arith, shared)) r

libraries_rise : (images : ImageList) (f : Parts → Bool) → ((m : Parts) → f m ≡ true → is_library m ≡ true) → (used place : ℕ) (ms : List Parts)
    → ((k j : ℕ) (m : Parts) → j ≡ place + k → slice_get ms k ≡ Some m → module_indexes (loaded images j) ≡ numbers (get_or (bases_from used ms) k 0 + 1) (length m.segments))
    → Rises (4096 + used) (indexes_at images (marked place (map f ms)))
libraries_rise images f only used place [] tie = tt
libraries_rise images f only used place (m ∷ ms) tie =
    one_rises images used place m (map f ms) (f m) (is_library m) refl (only m) (tie 0 place m (omega arith) refl)
    (libraries_rise images f only (shared_after used m) (place + 1) ms (λ k j n e at. tie (suc k) j n (omega (arith, e)) at))

-- Starts over the images of these modules.

module _ (images : ImageList) (ms : List Parts) (same : modules_of images ≡ ms) where
  pub at_place : (place : ℕ) (o : Option Parts) → nth ms place ≡ o → loaded images place ≡ loaded_of images place o
  at_place place o e =
      loaded_is images place (nth images.modules place)
      ∙ ap (loaded_of images place) (sym (nth-map (λ (r : Resolution). r.0) images.modules place) ∙ (ap (λ (ns : List Parts). nth ns place) same ∙ e))

  pub index_there : (place n : ℕ) (m : Parts) → nth ms place ≡ Some m → 1 ≤ n → n ≤ length m.segments → index_at images place n ≡ base_at (bases_of ms) place + n
  index_there place n m e low high =
      ap (λ (ns : List Parts). unwrap_or (index_of ns place n) 0) same
      ∙ ap (λ (o : Option ℕ). unwrap_or o 0) (sym (index_is ms place n (base_at (bases_of ms) place) m e refl low high))

  indexes_from : (place n : ℕ) (m : Parts) (ss : List Segment) → nth ms place ≡ Some m → 1 ≤ n → n + length ss ≤ length m.segments + 1
      → map (λ (x : LoadedSegment). x.index) (loaded_segments images place m n ss) ≡ numbers (base_at (bases_of ms) place + n) (length ss)
  indexes_from place n m [] e low high = refl
  indexes_from place n m (s ∷ ss) e low high =
      let number : base_at (bases_of ms) place + (n + 1) ≡ base_at (bases_of ms) place + n + 1 = omega arith in
      ap (λ (i : ℕ). i ∷ map (λ (x : LoadedSegment). x.index) (loaded_segments images place m (n + 1) ss)) (index_there place n m e low (omega (arith, high)))
      ∙ ap (λ (is : List ℕ). (base_at (bases_of ms) place + n) ∷ is)
      (indexes_from place (n + 1) m ss e (omega (arith, low)) (omega (arith, high)) ∙ ap (λ (i : ℕ). numbers i (length ss)) number)

  module_numbers : (place : ℕ) (m : Parts) → nth ms place ≡ Some m → module_indexes (loaded images place) ≡ numbers (base_at (bases_of ms) place + 1) (length m.segments)
  module_numbers place m e = ap module_indexes (at_place place (Some m) e) ∙ indexes_from place 1 m m.segments e (omega arith) (omega arith)

  tied : (k j : ℕ) (m : Parts) → j ≡ 1 + k → slice_get ms k ≡ Some m → module_indexes (loaded images j) ≡ numbers (get_or (bases_of ms) k 0 + 1) (length m.segments)
  tied k j m e at =
      let next : nth ms (1 + k) ≡ Some m = nth_after ms k m at in
      let back : 1 + k - 1 ≡ k = omega arith in
      ap (λ (i : ℕ). module_indexes (loaded images i)) e
      ∙ (module_numbers (1 + k) m next ∙ ap (λ (i : ℕ). numbers (get_or (bases_of ms) i 0 + 1) (length m.segments)) back)

  reached_rises : (shim : Option (List ℕ)) (o : Option Parts) → Rises 4096 (indexes_at images (reached_by shim ms o))
  reached_rises shim None = tt
  reached_rises shim (Some m) = libraries_rise images (reaches shim ms (length ms) m) (reached_library shim ms (length ms) m) 0 1 ms tied

  lists_rise : (shim : Option (List ℕ)) (programs : List ℕ) (pid : ℕ) → Rises 4096 (indexes_at images (nth_list (map (libraries_of shim ms) programs) pid))
  lists_rise shim programs pid =
      subst (λ (o : Option (List ℕ)). Rises 4096 (indexes_at images (list_or_none o))) (sym (nth-map (libraries_of shim ms) programs pid)) (go (nth programs pid))
    where
      go : (o : Option ℕ) → Rises 4096 (indexes_at images (list_or_none (option_map (libraries_of shim ms) o)))
      go None = tt
      go (Some place) = reached_rises shim (nth ms place)

  -- the program's segments, its environment, and the libraries' segments
  program_rises : (place : ℕ) (o : Option Parts) → nth ms place ≡ o → ((m : Parts) → o ≡ Some m → IsRunnable m) → (rest : List ℕ) → Rises 4096 rest → (loaded_of images place o).library ≡ false
      → Rises 1 (module_indexes (loaded_of images place o) ++ (length (loaded_of images place o).segments + 1) ∷ rest)
  program_rises place None e runnable rest rises program = (omega arith, rises_from 2 4096 rest (omega arith) rises)
  program_rises place (Some m) e runnable rest rises program = subst (λ (is : List ℕ). Rises 1 is) (sym indexes) rising
    where
      there : (place ≢ 0) × (slice_get ms (place - 1) ≡ Some m)
      there = nth_some ms place m e

      base : base_at (bases_of ms) place ≡ 0
      base = program_base 0 ms (place - 1) m there.1 program

      few : length m.segments ≤ 254
      few = (runnable m refl).few

      indexes : map (λ (x : LoadedSegment). x.index) (loaded_segments images place m 1 m.segments) ++ (length (loaded_segments images place m 1 m.segments) + 1) ∷ rest
          ≡ numbers 1 (length m.segments) ++ (length m.segments + 1) ∷ rest
      indexes =
          ap (λ (is : List ℕ). is ++ (length (loaded_segments images place m 1 m.segments) + 1) ∷ rest) (indexes_from place 1 m m.segments e (omega arith) (omega arith))
          ∙ (ap (λ (i : ℕ). numbers (i + 1) (length m.segments) ++ (length (loaded_segments images place m 1 m.segments) + 1) ∷ rest) base
          ∙ ap (λ (k : ℕ). numbers 1 (length m.segments) ++ (k + 1) ∷ rest) (loaded_length images place m 1 m.segments))

      rising : Rises 1 (numbers 1 (length m.segments) ++ (length m.segments + 1) ∷ rest)
      rising =
          rises_behind 1 1 (length m.segments) ((length m.segments + 1) ∷ rest) (omega arith)
          (omega arith, rises_from (length m.segments + 1 + 1) 4096 rest (omega (arith, few)) rises)

  fit_program : (place : ℕ) (o : Option Parts) → nth ms place ≡ o → ((m : Parts) → o ≡ Some m → IsRunnable m) → (libraries : List Loaded) (environment : List ℕ) (command : ℕ)
      → Rises 4096 (flat_map module_indexes libraries) → (loaded_of images place o).library ≡ false
      → IsFit (record { program = loaded_of images place o; libraries = libraries; environment = environment; command = command })
  fit_program place None e runnable libraries environment command rises program = record {
    numbered = λ n x h. absurd (none_there n x h);
    distinct = rising_distinct 1 _ (program_rises place None e runnable (flat_map module_indexes libraries) rises program);
    automatic = λ x h. absurd (none_there 0 x h);
  }
  fit_program place (Some m) e runnable libraries environment command rises program = record {
    numbered = numbered;
    distinct = rising_distinct 1 _ (program_rises place (Some m) e runnable (flat_map module_indexes libraries) rises program);
    automatic = automatic;
  }
    where
      there : (place ≢ 0) × (slice_get ms (place - 1) ≡ Some m)
      there = nth_some ms place m e

      base : base_at (bases_of ms) place ≡ 0
      base = program_base 0 ms (place - 1) m there.1 program

      numbered : (n : ℕ) (x : LoadedSegment) → nth_loaded n (loaded_segments images place m 1 m.segments) ≡ Some x → x.index ≡ n
      numbered n x h =
          let at = nth_some (loaded_segments images place m 1 m.segments) n x h in
          let y = is_loaded images place m 1 m.segments (n - 1) x at.1 in
          let some : n ≢ 0 = at.0 in
          let number : 1 + (n - 1) ≡ n = omega (arith, some) in
          let within : n - 1 < length m.segments = slice_get_within m.segments (n - 1) y.segment y.there in
          let index : index_at images place n ≡ base_at (bases_of ms) place + n = index_there place n m e (omega (arith, some)) (omega (arith, some, within)) in
          y.index ∙ (ap (index_at images place) number ∙ (index ∙ omega (arith, base)))

      automatic : (x : LoadedSegment) → nth_loaded m.head.auto_seg (loaded_segments images place m 1 m.segments) ≡ Some x → is_readable x.rights ≡ true
      automatic x h =
          let at = nth_some (loaded_segments images place m 1 m.segments) m.head.auto_seg x h in
          let y = is_loaded images place m 1 m.segments (m.head.auto_seg - 1) x at.1 in
          let writable = (runnable m refl).auto y.segment (nth_from m.head.auto_seg m.segments y.segment at.0 y.there) in
          ap is_readable y.rights ∙ writable_reads y.segment.kind writable.0

pub runnable_at : (ms : List Parts) (place : ℕ) → All IsRunnable ms → (m : Parts) → nth ms place ≡ Some m → IsRunnable m
runnable_at ms place all m e =
    let at = nth_some ms place m e in
    let less : place - 1 < length ms = slice_get_within ms (place - 1) m at.1 in
    subst (λ (x : Parts). IsRunnable x) (get_or_from_slice_get ms (place - 1) m m at.1) (All-get_or IsRunnable ms (place - 1) m less all)

-- each start of an outcome of linking
module _ (ms : List Parts) (c : Conf) (targets : List Targets) (programs : List ℕ) (shapes : Fitting ms targets) (all : All IsRunnable ms) where
  start_fit : (pid : ℕ) (p : Process) → (start_of (outcome ms c targets programs) pid p).program.library ≡ false → IsFit (start_of (outcome ms c targets programs) pid p)
  start_fit pid p program =
      let l : LinkedParts = outcome ms c targets programs in
      let s : Start = start_of l pid p in
      let place : ℕ = program_place l pid in
      let same : modules_of l.images ≡ ms = fitting_modules ms targets shapes in
      let is : s.program ≡ loaded_of l.images place (nth ms place) = at_place l.images ms same place (nth ms place) refl in
      subst (λ (x : Loaded). IsFit (record s { program = x })) (sym is)
      (fit_program l.images ms same place (nth ms place) refl (λ m e. runnable_at ms place all m e) s.libraries s.environment s.command
      (lists_rise l.images ms same c.shim programs pid) (ap (λ (x : Loaded). x.library) (sym is) ∙ program))

  starts_fit : (pid : ℕ) (ps : List Process) → AreFit (starts_of (outcome ms c targets programs) pid ps)
  starts_fit pid [] = All-nil (λ (s : Start). s.program.library ≡ false → IsFit s)
  starts_fit pid (p ∷ ps) =
      All-cons (λ (s : Start). s.program.library ≡ false → IsFit s) (start_of (outcome ms c targets programs) pid p) (starts_of (outcome ms c targets programs) (pid + 1) ps)
      (start_fit pid p) (starts_fit (pid + 1) ps)

-- what each start of an outcome of linking holds rises
module _ (ms : List Parts) (c : Conf) (targets : List Targets) (programs : List ℕ) (shapes : Fitting ms targets) (all : All IsRunnable ms) where
  start_rises : (pid : ℕ) (p : Process) → (start_of (outcome ms c targets programs) pid p).program.library ≡ false → Rises 1 (held_indexes (start_of (outcome ms c targets programs) pid p))
  start_rises pid p program =
      let l : LinkedParts = outcome ms c targets programs in
      let place : ℕ = program_place l pid in
      let same : modules_of l.images ≡ ms = fitting_modules ms targets shapes in
      let is : (start_of l pid p).program ≡ loaded_of l.images place (nth ms place) = at_place l.images ms same place (nth ms place) refl in
      subst (λ (x : Loaded). Rises 1 (held_indexes (record (start_of l pid p) { program = x }))) (sym is)
      (program_rises l.images ms same place (nth ms place) refl (λ m e. runnable_at ms place all m e) _ (lists_rise l.images ms same c.shim programs pid) (ap (λ (x : Loaded). x.library) (sym is) ∙ program))

  starts_rise : (pid : ℕ) (ps : List Process) → AreRising (starts_of (outcome ms c targets programs) pid ps)
  starts_rise pid [] = All-nil (λ (s : Start). s.program.library ≡ false → Rises 1 (held_indexes s))
  starts_rise pid (p ∷ ps) =
      All-cons (λ (s : Start). s.program.library ≡ false → Rises 1 (held_indexes s)) (start_of (outcome ms c targets programs) pid p) (starts_of (outcome ms c targets programs) (pid + 1) ps)
      (start_rises pid p) (starts_rise (pid + 1) ps)

-- What linking gives is such an outcome.

record Comes {X F Y : Type 0} (r : Result X F) (f : X → Result Y F) (y : Y) : Type 0 where
  pub value : X
  pub is : r ≡ Ok value
  pub gives : f value ≡ Ok y

comes : {X F Y : Type 0} (r : Result X F) (f : X → Result Y F) (y : Y) → (r >>= f) ≡ Ok y → Comes r f y
comes (Ok x) f y e = record { value = x; is = refl; gives = e }
comes (Err d) f y e = cc

abbrev with_programs : List Parts → Conf → List Targets → List ℕ → Result LinkedParts LinkFault
with_programs ms c targets programs = over (region_step (bases_of ms)) ms 0 >>= (λ _. Ok (outcome ms c targets programs))

abbrev with_targets : List Parts → Conf → List Targets → Result LinkedParts LinkFault
with_targets ms c targets = each (program_of ms) c.process >>= with_programs ms c targets

abbrev with_shim : List Parts → Conf → Option ℕ → Result LinkedParts LinkFault
with_shim ms c shim = over (module_step ms (bases_of ms) shim c.ordinals) ms [] >>= with_targets ms c

abbrev with_names : List Parts → Conf → Result LinkedParts LinkFault
with_names ms c = shim_of ms c.shim >>= with_shim ms c

-- all that holds of each outcome holds of what linking gives
pub of_linked : (P : LinkedParts → Type 0) (ms : List Parts) (c : Conf) (l : LinkedParts) → linked_of ms c ≡ Ok l
    → ((targets : List Targets) (programs : List ℕ) → Fitting ms targets → P (outcome ms c targets programs)) → P l
unfolding linked_of
of_linked P ms c l e each_outcome =
    let a = comes (over (name_step ms) ms 0) (λ _. with_names ms c) l e in
    let s = comes (shim_of ms c.shim) (with_shim ms c) l a.gives in
    let b = comes (over (module_step ms (bases_of ms) s.value c.ordinals) ms []) (with_targets ms c) l s.gives in
    let d = comes (each (program_of ms) c.process) (with_programs ms c b.value) l b.gives in
    let f = comes (over (region_step (bases_of ms)) ms 0) (λ _. Ok (outcome ms c b.value d.value)) l d.gives in
    subst P (in_ok f.gives) (each_outcome b.value d.value (fitting ms (bases_of ms) s.value c.ordinals ms b.value b.is))
  where
    linked_in : Result LinkedParts LinkFault → LinkedParts
    linked_in (Ok x) = x
    linked_in (Err fault) = l

    in_ok : {x : LinkedParts} → ◌≡◌ {A = Result LinkedParts LinkFault} (Ok x) (Ok l) → x ≡ l
    in_ok h = ap linked_in h

pub linked_starts_fit : (ms : List Parts) (c : Conf) (l : LinkedParts) → All IsRunnable ms → linked_of ms c ≡ Ok l → AreFit (starts_of l 1 c.process)
linked_starts_fit ms c l all e = of_linked (λ (x : LinkedParts). AreFit (starts_of x 1 c.process)) ms c l e (λ targets programs shapes. starts_fit ms c targets programs shapes all 1 c.process)

pub linked_starts_rise : (ms : List Parts) (c : Conf) (l : LinkedParts) → All IsRunnable ms → linked_of ms c ≡ Ok l → AreRising (starts_of l 1 c.process)
linked_starts_rise ms c l all e = of_linked (λ (x : LinkedParts). AreRising (starts_of x 1 c.process)) ms c l e (λ targets programs shapes. starts_rise ms c targets programs shapes all 1 c.process)

-- its modules are those that were linked
pub linked_modules : (ms : List Parts) (c : Conf) (l : LinkedParts) → linked_of ms c ≡ Ok l → modules_of l.images ≡ ms
linked_modules ms c l e = of_linked (λ (x : LinkedParts). modules_of x.images ≡ ms) ms c l e (λ targets programs shapes. fitting_modules ms targets shapes)
