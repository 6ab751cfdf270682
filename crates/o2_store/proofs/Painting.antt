-- The front of an image, byte by byte.
use Rattle.std.proofs.Common.{◌≡◌, ℕ, zero, suc, ◌+◌, ◌<◌, ◌≤◌, Bool, true, false, List, [], length, take, get_or, Option, Some, None, eqb, sym, ap, ◌∙◌, arith, if◌then◌else◌}
use Rattle.std.proofs.lemmas.List.{get_or-take}
use Rattle.o2_ne.specs.Steps.{tabulate}
use Rattle.o2_ne_segs.specs.declared.segment.Segment.{Segment}
use Rattle.o2_ne_segs.specs.SegmentTable.{nth_segment}
use Rattle.o2_image.specs.Getters.{nth, nth_list}
use Rattle.o2_image.specs.Images.{Target, Patch, image, image_byte, image_in, all_patches}
use Rattle.o2_image.specs.Records.{bytes_of}
use Rattle.o2_image.specs.ImageList.{ImageList, Resolution, module_front, image_front}
use Rattle.o2_image.specs.Parts.{Parts}
use Rattle.o2_phys.specs.Bytes.{with_part}
use Rattle.o2_phys.proofs.Parts.{get-with_part}
use Rattle.o2_store.specs.Pictures.{picture}

get-tabulate : (f : ℕ → ℕ) (i n j : ℕ) → j < n → get_or (tabulate f i n) j 0 ≡ f (i + j)
unfolding tabulate
get-tabulate f i zero j l = absurd (omega arith)
get-tabulate f i (suc n) zero l = ap f (omega arith)
get-tabulate f i (suc n) (suc j) l = get-tabulate f (i + 1) n j (omega arith) ∙ ap f (omega arith)

image_at : (bytes : List ℕ) (ps : List Patch) (len j : ℕ) → j < len → get_or (image bytes ps len) j 0 ≡ get_or (image bytes ps (j + 1)) j 0
image_at bytes ps len j l = get-tabulate (image_byte bytes ps) 0 len j l ∙ sym (get-tabulate (image_byte bytes ps) 0 (j + 1) j (omega arith))

in_at : (m : Parts) (ts : List (List Target)) (seg : ℕ) (s : Option Segment) (len j : ℕ) → j < len → get_or (image_in m ts seg s len) j 0 ≡ get_or (image_in m ts seg s (j + 1)) j 0
in_at m ts seg None len j l = image_at [] [] len j l
in_at m ts seg (Some s) len j l = image_at (bytes_of m.file s) (all_patches (bytes_of m.file s) (nth_list m.relocs seg) (nth_list ts seg)) len j l

module_at : (r : Option Resolution) (seg len j : ℕ) → j < len → get_or (module_front r seg len) j 0 ≡ get_or (module_front r seg (j + 1)) j 0
module_at None seg len j l = image_at [] [] len j l
module_at (Some m) seg len j l = in_at m.0 m.1 seg (nth_segment seg m.0.segments) len j l

front_by : (b : Bool) (env : List ℕ) (r : Option Resolution) (seg len j : ℕ) → j < len
    → get_or (if b then image env [] len else module_front r seg len) j 0 ≡ get_or (if b then image env [] (j + 1) else module_front r seg (j + 1)) j 0
front_by true env r seg len j l = image_at env [] len j l
front_by false env r seg len j l = module_at r seg len j l

pub front_at : (images : ImageList) (m seg len j : ℕ) → j < len → get_or (image_front images m seg len) j 0 ≡ picture images m seg j
unfolding picture
front_at images m seg len j l = front_by (eqb m 0) (nth_list images.environments seg) (nth images.modules m) seg len j l

-- bytes that were written through a part
pub painted_at : (m xs : List ℕ) (at len j : ℕ) → at + len ≤ length m → length xs ≡ len → j < len → get_or (take (length m) (with_part m at xs)) (at + j) 0 ≡ get_or xs j 0
painted_at m xs at len j w e l = get_or-take (length m) (with_part m at xs) (at + j) 0 (omega arith) ∙ get-with_part m xs at j (omega arith) (omega arith)
