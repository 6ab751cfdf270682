use Rattle.std.proofs.Common.{◌≡◌, Some, List, ℕ, arith, sym, ap, ◌∙◌, length}
use Rattle.o2_image.specs.ImageList.{Exists}
use Rattle.o2_image.specs.Getters.{nth}
use Rattle.o2_dynlink.specs.Outcome.{modules_of}
use Rattle.o2_dynlink.specs.Selectors.{base_at, bases_of}
use Rattle.o2_dynlink.proofs.Indexes.{index_is, length-bases, module_there, nth_exists}
use Rattle.o2_dynlink.proofs.linked.Linked.index.Goals as goal

pub base_at-requires : goal.base_at-requires
base_at-requires c =
    let there : nth (modules_of c.self.inside.images) c.args.«module» ≡ Some c.in-Some.found.now = module_there c.self.inside.images.modules c.args.«module» _ c.in-Some.ensures in
    let e : Exists (modules_of c.self.inside.images) c.args.«module» = nth_exists _ _ _ there in
    let len : length c.self.inside.bases.items ≡ length (modules_of c.self.inside.images) = ap length c.self.invariant.1 ∙ length-bases 0 (modules_of c.self.inside.images) in
    rw c.as_slice.ensures.value (e.0, omega (arith, len, e.1))

pub overflow_add-result : goal.overflow_add-result
overflow_add-result c =
    let there : nth (modules_of c.self.inside.images) c.args.«module» ≡ Some c.in-Some.found.now = module_there c.self.inside.images.modules c.args.«module» _ c.in-Some.ensures in
    let is : c.base_at.result ≡ base_at (bases_of (modules_of c.self.inside.images)) c.args.«module» =
    c.base_at.ensures ∙ ap (λ (bs : List ℕ). base_at bs c.args.«module») (c.as_slice.ensures.value ∙ c.self.invariant.1) in
    let value = index_is (modules_of c.self.inside.images) c.args.«module» c.args.seg c.base_at.result _ there is (omega arith) (omega arith) in
    let le = c.self.invariant.0.within _ _ _ (sym value) in
    omega (arith, le)

pub returns-clause-value : goal.returns-clause-value
returns-clause-value c =
    let there : nth (modules_of c.self.inside.images) c.args.«module» ≡ Some c.in-Some.found.now = module_there c.self.inside.images.modules c.args.«module» _ c.in-Some.ensures in
    let is : c.base_at.result ≡ base_at (bases_of (modules_of c.self.inside.images)) c.args.«module» =
    c.base_at.ensures ∙ ap (λ (bs : List ℕ). base_at bs c.args.«module») (c.as_slice.ensures.value ∙ c.self.invariant.1) in
    let value = index_is (modules_of c.self.inside.images) c.args.«module» c.args.seg c.base_at.result _ there is (omega arith) (omega arith) in
    rw (← c.self.view_is) value

pub returns-clause-within : goal.returns-clause-within
returns-clause-within c =
    let there : nth (modules_of c.self.inside.images) c.args.«module» ≡ Some c.in-Some.found.now = module_there c.self.inside.images.modules c.args.«module» _ c.in-Some.ensures in
    let is : c.base_at.result ≡ base_at (bases_of (modules_of c.self.inside.images)) c.args.«module» =
    c.base_at.ensures ∙ ap (λ (bs : List ℕ). base_at bs c.args.«module») (c.as_slice.ensures.value ∙ c.self.invariant.1) in
    let value = index_is (modules_of c.self.inside.images) c.args.«module» c.args.seg c.base_at.result _ there is (omega arith) (omega arith) in
    c.self.invariant.0.within _ _ _ (sym value)
