-- Neither a module's checks nor linking refuse it for what a start alone asks for.
use Rattle.std.proofs.Common.{◌≡◌, ℕ, zero, suc, ◌+◌, ◌&&◌, ◌==◌, Bool, true, false, not, List, [], ◌∷◌, ◌++◌, Option, Some, None, length, subst}
use Rattle.std.specs.Prelude.{Result, Ok, Err, IfErr, if◌then◌else◌, nat_le, option_and_then}
use Rattle.o2_base.specs.declared.faults.NeFault.{NeFault}
use Rattle.o2_base.specs.declared.faults.NeFault.TheVariants as ne
use Rattle.o2_base.specs.declared.faults.SegFault.{SegFault}
use Rattle.o2_base.specs.declared.faults.SegFault.TheVariants as seg
use Rattle.o2_base.specs.declared.faults.ModuleFault.{ModuleFault}
use Rattle.o2_base.specs.declared.memory.Fail.{Fail}
use Rattle.o2_base.specs.declared.memory.Fail.TheVariants.{Bad}
use Rattle.o2_conf.specs.declared.conf.Conf.{Conf}
use Rattle.o2_conf.specs.declared.process.Process.{Process}
use Rattle.o2_ne.specs.declared.head.Head.{Head}
use Rattle.o2_ne.specs.declared.entries.Entry.{Entry}
use Rattle.o2_ne.specs.Checks.{all_hold, or_fault, ◌>>=◌}
use Rattle.o2_ne.specs.Header.{head_of}
use Rattle.o2_ne.specs.EntryTable.{target_of}
use Rattle.o2_ne.specs.NameTable.{ordinal_of}
use Rattle.o2_ne.specs.Steps.{Fails, over, steps}
use Rattle.o2_ne.specs.Words.{lies_in, byte_at}
use Rattle.o2_ne_segs.specs.declared.reloc.Reloc.{Reloc}
use Rattle.o2_ne_segs.specs.declared.segment.Segment.{Segment}
use Rattle.o2_ne_segs.specs.Records.{counted, relocs_in}
use Rattle.o2_ne_segs.specs.SegmentTable.{nth_segment}
use Rattle.o2_image.specs.Chains.{Marks, Walk, any_patched, chain, chain_step, single}
use Rattle.o2_image.specs.Faults.{under_ne, under_seg}
use Rattle.o2_image.specs.Getters.{imported_name, nth}
use Rattle.o2_image.specs.Images.{Target}
use Rattle.o2_image.specs.Modules.{auto_data_checks, is_writable, module_of}
use Rattle.o2_image.specs.Parts.{Parts}
use Rattle.o2_image.specs.Records.{Checking, bytes_of, has_one_place, marks_after, record_step, segment_step}
use Rattle.o2_image.specs.References.{reference_place, reference_step, reference_word}
use Rattle.o2_image.specs.Targets.{has_target, is_fixup, is_source, target_kind, width_of}
use Rattle.o2_dynlink.specs.declared.fault.LinkFault.{LinkFault}
use Rattle.o2_dynlink.specs.Imports.{base_for, each, entry_called, entry_or, entry_with, exported, exported_as, found_at, gate_of_built, gate_or, gather, import_name, import_ordinal, import_text, imported, service_called, service_with, target_in}
use Rattle.o2_dynlink.specs.Linking.{at_place, linked_of, module_step, module_targets, name_step, none_lost, place_or, program_of, region_step, shim_of, shim_or}
use Rattle.o2_dynlink.specs.Listed.{is_doscalls, is_taken, library_named, lost_reference, module_named}
use Rattle.o2_dynlink.specs.Selectors.{base_at, bases_of}
use Rattle.o2_open.specs.Loads.{IsOfStart}

abbrev pub NotOfStart : ModuleFault → Type 0
NotOfStart f = IsOfStart f → ⊥

abbrev pub LinksNotOfStart : LinkFault → Type 0
LinksNotOfStart f = NotOfStart f.fault

-- What holds of each fault of a reading.

bind_err : {A B F : Type 0} (P : F → Type 0) (r : Result A F) (k : A → Result B F) → IfErr r P → ((x : A) → IfErr (k x) P) → IfErr (r >>= k) P
bind_err P (Ok x) k h next = next x
bind_err P (Err f) k h next = h

over_err : {X S F : Type 0} (P : F → Type 0) (f : X → S → Result S F) → ((x : X) (s : S) → IfErr (f x s) P) → (xs : List X) (s : S) → IfErr (over f xs s) P
unfolding over
over_err P f h [] s = tt
over_err P f h (x ∷ xs) s = bind_err P (f x s) (over f xs) (h x s) (over_err P f h xs)

steps_err : {S F : Type 0} (P : F → Type 0) (f : S → Result S F) → ((s : S) → IfErr (f s) P) → (n : ℕ) (s : S) → IfErr (steps f n s) P
unfolding steps
steps_err P f h zero s = tt
steps_err P f h (suc n) s = bind_err P (f s) (steps f n) (h s) (steps_err P f h n)

if_err : {X F : Type 0} (P : F → Type 0) (b : Bool) (r q : Result X F) → IfErr r P → IfErr q P → IfErr (if b then r else q) P
if_err P true r q h k = h
if_err P false r q h k = k

one_check : {F : Type 0} (P : F → Type 0) (b : Bool) (e : F) → P e → IfErr (all_hold (or_fault b e ∷ [])) P
one_check P true e h = tt
one_check P false e h = h

two_checks : {F : Type 0} (P : F → Type 0) (a b : Bool) (e f : F) → P e → P f → IfErr (all_hold (or_fault a e ∷ or_fault b f ∷ [])) P
two_checks P true true e f h k = tt
two_checks P true false e f h k = k
two_checks P false b e f h k = h

-- A module's checks.

ne_err : {X : Type 0} (r : Result X NeFault) → IfErr (under_ne r) NotOfStart
ne_err (Ok x) = tt
ne_err (Err ne.NotMz) = λ z. z
ne_err (Err ne.NotNe) = λ z. z
ne_err (Err (ne.Truncated p)) = λ z. z
ne_err (Err ne.NotOs2) = λ z. z
ne_err (Err ne.LinkErrors) = λ z. z
ne_err (Err (ne.BadTable w)) = λ z. z
ne_err (Err (ne.OutOfProfile w)) = λ z. z

seg_err : {X : Type 0} (r : Result X SegFault) → IfErr (under_seg r) NotOfStart
seg_err (Ok x) = tt
seg_err (Err seg.NoMemory) = λ z. z
seg_err (Err (seg.Truncated p)) = λ z. z
seg_err (Err (seg.OutOfProfile p)) = λ z. z

auto_err : (h : Head) (s : Option Segment) → IfErr (all_hold (auto_data_checks h s)) NotOfStart
auto_err h None = tt
auto_err h (Some s) = two_checks NotOfStart (is_writable s.kind) (nat_le (s.size + h.stack + h.heap) 65536) _ _ (λ z. z) (λ z. z)

reference_err : (file : List ℕ) (h : Head) (k : ℕ) → IfErr (reference_step file h k) NotOfStart
reference_err file h k =
    bind_err NotOfStart _ _ (one_check NotOfStart (lies_in file (reference_word h k) 2) _ (λ z. z)) (λ a.
    bind_err NotOfStart _ _ (two_checks NotOfStart (lies_in file (reference_place file h k) 1) (lies_in file (reference_place file h k + 1) (byte_at file (reference_place file h k))) _ _ (λ z. z) (λ z. z)) (λ b. tt))

module _ (n : ℕ) (bytes : List ℕ) where
  single_err : (width p : ℕ) (marks : Marks) → IfErr (single n bytes width p marks) NotOfStart
  single_err width p marks =
      bind_err NotOfStart _ _ (two_checks NotOfStart (nat_le (p + width) (length bytes)) (not (any_patched marks p width)) _ _ (λ z. z) (λ z. z)) (λ a. tt)

  step_err : (width : ℕ) (w : Walk) → IfErr (chain_step n bytes width w) NotOfStart
  unfolding chain_step
  step_err width w = if_err NotOfStart w.ended _ _ tt (bind_err NotOfStart _ _ (single_err width w.next w.marks) (λ a. tt))

  chain_err : (width p : ℕ) (marks : Marks) → IfErr (chain n bytes width p marks) NotOfStart
  unfolding chain
  chain_err width p marks = bind_err NotOfStart _ _ (steps_err NotOfStart (chain_step n bytes width) (step_err width) 65536 _) (λ a. tt)

  marks_err : (r : Reloc) (marks : Marks) → IfErr (marks_after n bytes r marks) NotOfStart
  marks_err r marks =
      if_err NotOfStart (is_fixup r) _ _ tt (if_err NotOfStart (has_one_place r) _ _ (single_err (width_of r.source) r.place marks) (chain_err (width_of r.source) r.place marks))

  record_err : (file : List ℕ) (h : Head) (es : List Entry) (r : Reloc) (c : Checking) → IfErr (record_step file h es n bytes r c) NotOfStart
  unfolding record_step
  record_err file h es r c =
      bind_err NotOfStart _ _ (one_check NotOfStart (is_source r.source && has_target file h es r) _ (λ z. z)) (λ a. bind_err NotOfStart _ _ (marks_err r c.marks) (λ b. tt))

segment_err : (file : List ℕ) (h : Head) (es : List Entry) (s : Segment) (n : ℕ) → IfErr (segment_step file h es s n) NotOfStart
unfolding segment_step
segment_err file h es s n =
    bind_err NotOfStart _ _ (seg_err (counted file s)) (λ a.
    bind_err NotOfStart _ _ (over_err NotOfStart (record_step file h es n (bytes_of file s)) (record_err n (bytes_of file s) file h es) (relocs_in file s) _) (λ b. tt))

module_err : (file : List ℕ) → IfErr (module_of file) NotOfStart
unfolding module_of
module_err file =
    bind_err NotOfStart _ _ (ne_err (head_of file)) (λ h.
    bind_err NotOfStart _ _ (seg_err _) (λ ss.
    bind_err NotOfStart _ _ (auto_err h (nth_segment h.auto_seg ss)) (λ a.
    bind_err NotOfStart _ _ (ne_err _) (λ names.
    bind_err NotOfStart _ _ (steps_err NotOfStart (reference_step file h) (reference_err file h) h.references 0) (λ b.
    bind_err NotOfStart _ _ (ne_err _) (λ es.
    bind_err NotOfStart _ _ (over_err NotOfStart (segment_step file h es) (segment_err file h es) ss 1) (λ c. tt)))))))

-- Linking.

gate_err : (gate : Option Target) (other : Result Target ModuleFault) → IfErr other NotOfStart → IfErr (gate_or gate other) NotOfStart
gate_err None other h = h
gate_err (Some gate) other h = tt

entry_err : (base : ℕ) (e : Option (ℕ × ℕ)) (fault : ModuleFault) → NotOfStart fault → IfErr (entry_or base e fault) NotOfStart
entry_err base None fault h = h
entry_err base (Some e) fault h = tt

exported_err : (base : ℕ) (name : List ℕ) (n : ℕ) (m : Option Parts) → IfErr (exported base name n m) NotOfStart
exported_err base name n None = λ z. z
exported_err base name n (Some m) = entry_err base (target_of n m.entries) _ (λ z. z)

exported_as_err : (base : ℕ) (name text : List ℕ) (m : Option Parts) → IfErr (exported_as base name text m) NotOfStart
exported_as_err base name text None = λ z. z
exported_as_err base name text (Some m) = entry_err base (option_and_then (λ n. target_of n m.entries) (ordinal_of text m.names.names)) _ (λ z. z)

module _ (ms : List Parts) (bases : List ℕ) (shim : Option ℕ) (ordinals : List (ℕ × ℕ)) where
  ordinal_err : (name : List ℕ) (n : ℕ) → IfErr (import_ordinal ms bases shim ordinals name n) NotOfStart
  ordinal_err name n =
      if_err NotOfStart (is_doscalls name) _ _ (gate_err (gate_of_built (service_with ordinals n)) _ (entry_err (base_for bases shim) (entry_with n (found_at ms shim)) _ (λ z. z)))
      (exported_err (base_for bases (library_named ms name)) name n (found_at ms (library_named ms name)))

  name_err : (name text : List ℕ) → IfErr (import_name ms bases shim name text) NotOfStart
  name_err name text =
      if_err NotOfStart (is_doscalls name) _ _ (gate_err (gate_of_built (service_called text)) _ (entry_err (base_for bases shim) (entry_called text (found_at ms shim)) _ (λ z. z)))
      (exported_as_err (base_for bases (library_named ms name)) name text (found_at ms (library_named ms name)))

  text_err : (name : List ℕ) (text : Option (List ℕ)) → IfErr (import_text ms bases shim name text) NotOfStart
  text_err name None = tt
  text_err name (Some text) = name_err name text

  imported_err : (m : Parts) (r : Reloc) (name : Option (List ℕ)) → IfErr (imported ms bases shim ordinals m r name) NotOfStart
  imported_err m r None = tt
  imported_err m r (Some name) = if_err NotOfStart (target_kind r == 1) _ _ (ordinal_err name r.second) (text_err name (imported_name m r.second))

  target_err : (base : ℕ) (m : Parts) (r : Reloc) → IfErr (target_in ms bases shim ordinals base m r) NotOfStart
  target_err base m r = if_err NotOfStart (target_kind r == 0) _ _ tt (if_err NotOfStart (target_kind r == 3) _ _ tt (imported_err m r (nth m.references r.first)))

each_err : {X Y F : Type 0} (P : F → Type 0) (f : X → Result Y F) → ((x : X) → IfErr (f x) P) → (xs : List X) → IfErr (each f xs) P
each_err P f h xs = over_err P (gather f) (λ x found. bind_err P (f x) (λ y. Ok (found ++ y ∷ [])) (h x) (λ y. tt)) xs []

lost_err : (o : Option (List ℕ)) → IfErr (none_lost o) NotOfStart
lost_err None = tt
lost_err (Some name) = λ z. z

place_err : {X : Type 0} (place : ℕ) (r : Result X ModuleFault) → IfErr r NotOfStart → IfErr (at_place place r) LinksNotOfStart
place_err place (Ok x) h = tt
place_err place (Err f) h = h

process_err : (name : List ℕ) (o : Option ℕ) → IfErr (place_or name o) LinksNotOfStart
process_err name None = λ z. z
process_err name (Some place) = tt

named_err : (name : List ℕ) (o : Option ℕ) → IfErr (shim_or name o) LinksNotOfStart
named_err name None = λ z. z
named_err name (Some place) = tt

shim_err : (ms : List Parts) (o : Option (List ℕ)) → IfErr (shim_of ms o) LinksNotOfStart
shim_err ms None = tt
shim_err ms (Some name) = named_err name (library_named ms name)

names_err : (ms : List Parts) (m : Parts) (i : ℕ) → IfErr (name_step ms m i) LinksNotOfStart
unfolding name_step
names_err ms m i = if_err LinksNotOfStart (is_taken ms i m.names.own) _ _ (λ z. z) tt

targets_err : (ms : List Parts) (bases : List ℕ) (shim : Option ℕ) (ordinals : List (ℕ × ℕ)) (base : ℕ) (m : Parts) → IfErr (module_targets ms bases shim ordinals base m) NotOfStart
unfolding module_targets
targets_err ms bases shim ordinals base m =
    bind_err NotOfStart _ _ (lost_err (lost_reference ms m)) (λ a. each_err NotOfStart (each (target_in ms bases shim ordinals base m)) (each_err NotOfStart (target_in ms bases shim ordinals base m) (target_err ms bases shim ordinals base m)) m.relocs)

modules_err : (ms : List Parts) (bases : List ℕ) (shim : Option ℕ) (ordinals : List (ℕ × ℕ)) (m : Parts) (found : List (List (List Target))) → IfErr (module_step ms bases shim ordinals m found) LinksNotOfStart
unfolding module_step
modules_err ms bases shim ordinals m found =
    bind_err LinksNotOfStart _ _ (place_err (length found + 1) _ (targets_err ms bases shim ordinals (base_at bases (length found + 1)) m)) (λ a. tt)

regions_err : (bases : List ℕ) (m : Parts) (i : ℕ) → IfErr (region_step bases m i) LinksNotOfStart
unfolding region_step
regions_err bases m i = if_err LinksNotOfStart (nat_le (base_at bases (i + 1) + length m.segments) 8191) _ _ tt (λ z. z)

linked_err : (ms : List Parts) (c : Conf) → IfErr (linked_of ms c) LinksNotOfStart
unfolding linked_of
linked_err ms c =
    bind_err LinksNotOfStart _ _ (over_err LinksNotOfStart (name_step ms) (names_err ms) ms 0) (λ a.
    bind_err LinksNotOfStart _ _ (shim_err ms c.shim) (λ shim.
    bind_err LinksNotOfStart _ _ (over_err LinksNotOfStart (module_step ms (bases_of ms) shim c.ordinals) (modules_err ms (bases_of ms) shim c.ordinals) ms []) (λ targets.
    bind_err LinksNotOfStart _ _ (each_err LinksNotOfStart (program_of ms) (λ (p : Process). process_err p.«module» (module_named ms p.«module»)) c.process) (λ programs.
    bind_err LinksNotOfStart _ _ (over_err LinksNotOfStart (region_step (bases_of ms)) (regions_err (bases_of ms)) ms 0) (λ b. tt)))))

-- What is refused, as a function tells it.

told_err : {X F : Type 0} (P : F → Type 0) (r : Result X F) (e : Fail F) (f : F) → e ≡ Bad f → Fails e r → IfErr r P → P f
told_err {X} {F} P r e f is h holds = subst (λ (z : Result X F). IfErr z P) (subst (λ (z : Fail F). Fails z r) is h) holds

pub module_given : (file : List ℕ) (e : Fail ModuleFault) (f : ModuleFault) → e ≡ Bad f → Fails e (module_of file) → NotOfStart f
module_given file e f is h = told_err NotOfStart (module_of file) e f is h (module_err file)

pub linked_given : (ms : List Parts) (c : Conf) (e : Fail LinkFault) (f : LinkFault) → e ≡ Bad f → Fails e (linked_of ms c) → NotOfStart f.fault
linked_given ms c e f is h = told_err LinksNotOfStart (linked_of ms c) e f is h (linked_err ms c)
