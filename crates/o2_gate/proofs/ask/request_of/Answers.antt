use Rattle.std.proofs.Common.{ℕ, List, [], ◌∷◌, Option, ap, refl}
use Rattle.o2_world.specs.declared.types.Slot.TheVariants.{Word, Text, ToWord}
use Rattle.o2_world.specs.Calls.{row_of}
use Rattle.o2_world.specs.Outcomes.{by_ruling}
use Rattle.o2_world.specs.SharedNames.{name_by}
use Rattle.o2_world.specs.SharedRulings.{naming, sharing}
use Rattle.o2_gate.specs.declared.requests.SegmentArguments.TheVariants as call
use Rattle.o2_gate.specs.declared.requests.HugeArguments.TheVariants as huge
use Rattle.o2_gate.specs.declared.requests.SharedArguments.TheVariants as shared
use Rattle.o2_gate.specs.declared.text.TextArgument.{TextArgument}
use Rattle.o2_gate.specs.Given.{word_in}
use Rattle.o2_gate.proofs.Asks.{Aims, Ruled, by_number, text_is}
use Rattle.o2_gate.proofs.Walks.{aimed}
use Rattle.o2_gate.proofs.ask.request_of.Goals as goal

pub returns-in-5-clause-ruled : goal.returns-in-5-clause-ruled
unfolding row_of
returns-in-5-clause-ruled c = λ v f b r e is same.
    let w : ℕ → ℕ = word_in c.args.given.now.words in
    let t : TextArgument = c.args.given.now.text in
    by_number (Ruled w t (call.Alloc (w 3) (w 0))) c.args.service 5 c.in-5.is refl (λ v f b is same. refl) r e v f b is same

pub returns-in-5-clause-aims : goal.returns-in-5-clause-aims
unfolding row_of
returns-in-5-clause-aims c = λ v f r e is.
    let w : ℕ → ℕ = word_in c.args.given.now.words in
    let t : TextArgument = c.args.given.now.text in
    by_number (Aims w t (call.Alloc (w 3) (w 0))) c.args.service 5 c.in-5.is refl (λ v f is. refl) r e v f is

pub returns-in-6-clause-ruled : goal.returns-in-6-clause-ruled
unfolding row_of
returns-in-6-clause-ruled c = λ v f b r e is same.
    let w : ℕ → ℕ = word_in c.args.given.now.words in
    let t : TextArgument = c.args.given.now.text in
    by_number (Ruled w t (call.Realloc (w 1) (w 0))) c.args.service 6 c.in-6.is refl (λ v f b is same. refl) r e v f b is same

pub returns-in-6-clause-aims : goal.returns-in-6-clause-aims
unfolding row_of
returns-in-6-clause-aims c = λ v f r e is.
    let w : ℕ → ℕ = word_in c.args.given.now.words in
    let t : TextArgument = c.args.given.now.text in
    by_number (Aims w t (call.Realloc (w 1) (w 0))) c.args.service 6 c.in-6.is refl (λ v f is. refl) r e v f is

pub returns-in-7-clause-ruled : goal.returns-in-7-clause-ruled
unfolding row_of
returns-in-7-clause-ruled c = λ v f b r e is same.
    let w : ℕ → ℕ = word_in c.args.given.now.words in
    let t : TextArgument = c.args.given.now.text in
    by_number (Ruled w t (call.Free (w 0))) c.args.service 7 c.in-7.is refl (λ v f b is same. refl) r e v f b is same

pub returns-in-7-clause-aims : goal.returns-in-7-clause-aims
unfolding row_of
returns-in-7-clause-aims c = λ v f r e is.
    let w : ℕ → ℕ = word_in c.args.given.now.words in
    let t : TextArgument = c.args.given.now.text in
    by_number (Aims w t (call.Free (w 0))) c.args.service 7 c.in-7.is refl (λ v f is. refl) r e v f is

pub returns-in-8-clause-ruled : goal.returns-in-8-clause-ruled
unfolding row_of
returns-in-8-clause-ruled c = λ v f b r e is same.
    let w : ℕ → ℕ = word_in c.args.given.now.words in
    let t : TextArgument = c.args.given.now.text in
    by_number (Ruled w t (call.Size (w 2))) c.args.service 8 c.in-8.is refl (λ v f b is same. refl) r e v f b is same

pub returns-in-8-clause-aims : goal.returns-in-8-clause-aims
unfolding row_of
returns-in-8-clause-aims c = λ v f r e is.
    let w : ℕ → ℕ = word_in c.args.given.now.words in
    let t : TextArgument = c.args.given.now.text in
    by_number (Aims w t (call.Size (w 2))) c.args.service 8 c.in-8.is refl (λ v f is. refl) r e v f is

pub returns-in-9-clause-ruled : goal.returns-in-9-clause-ruled
unfolding row_of
returns-in-9-clause-ruled c = λ v f b r e is same.
    let w : ℕ → ℕ = word_in c.args.given.now.words in
    let t : TextArgument = c.args.given.now.text in
    by_number (Ruled w t (call.Lock (w 0))) c.args.service 9 c.in-9.is refl (λ v f b is same. refl) r e v f b is same

pub returns-in-9-clause-aims : goal.returns-in-9-clause-aims
unfolding row_of
returns-in-9-clause-aims c = λ v f r e is.
    let w : ℕ → ℕ = word_in c.args.given.now.words in
    let t : TextArgument = c.args.given.now.text in
    by_number (Aims w t (call.Lock (w 0))) c.args.service 9 c.in-9.is refl (λ v f is. refl) r e v f is

pub returns-in-10-clause-ruled : goal.returns-in-10-clause-ruled
unfolding row_of
returns-in-10-clause-ruled c = λ v f b r e is same.
    let w : ℕ → ℕ = word_in c.args.given.now.words in
    let t : TextArgument = c.args.given.now.text in
    by_number (Ruled w t (call.Unlock (w 0))) c.args.service 10 c.in-10.is refl (λ v f b is same. refl) r e v f b is same

pub returns-in-10-clause-aims : goal.returns-in-10-clause-aims
unfolding row_of
returns-in-10-clause-aims c = λ v f r e is.
    let w : ℕ → ℕ = word_in c.args.given.now.words in
    let t : TextArgument = c.args.given.now.text in
    by_number (Aims w t (call.Unlock (w 0))) c.args.service 10 c.in-10.is refl (λ v f is. refl) r e v f is

pub returns-in-11-clause-ruled : goal.returns-in-11-clause-ruled
unfolding row_of
returns-in-11-clause-ruled c = λ v f b r e is same.
    let w : ℕ → ℕ = word_in c.args.given.now.words in
    let t : TextArgument = c.args.given.now.text in
    by_number (Ruled w t (call.Alias (w 2))) c.args.service 11 c.in-11.is refl (λ v f b is same. refl) r e v f b is same

pub returns-in-11-clause-aims : goal.returns-in-11-clause-aims
unfolding row_of
returns-in-11-clause-aims c = λ v f r e is.
    let w : ℕ → ℕ = word_in c.args.given.now.words in
    let t : TextArgument = c.args.given.now.text in
    by_number (Aims w t (call.Alias (w 2))) c.args.service 11 c.in-11.is refl (λ v f is. refl) r e v f is

pub returns-in-12-clause-ruled : goal.returns-in-12-clause-ruled
unfolding row_of
returns-in-12-clause-ruled c = λ v f b r e is same.
    let w : ℕ → ℕ = word_in c.args.given.now.words in
    let t : TextArgument = c.args.given.now.text in
    by_number (Ruled w t (call.Shared (shared.Name (w 4) t))) c.args.service 12 c.in-12.is refl (λ v f b is same. ap (λ (o : Option (List ℕ)). by_ruling (Word ∷ Text ∷ ToWord ∷ []) b (naming b.known b.number (w 4) (name_by o))) (text_is v f b (w 3) (w 2) t same is.1.0)) r e v f b is same

pub returns-in-12-clause-aims : goal.returns-in-12-clause-aims
unfolding row_of
returns-in-12-clause-aims c = λ v f r e is.
    let w : ℕ → ℕ = word_in c.args.given.now.words in
    let t : TextArgument = c.args.given.now.text in
    by_number (Aims w t (call.Shared (shared.Name (w 4) t))) c.args.service 12 c.in-12.is refl (λ v f is. aimed v f w t (Word ∷ Text ∷ ToWord ∷ []) is) r e v f is

pub returns-in-13-clause-ruled : goal.returns-in-13-clause-ruled
unfolding row_of
returns-in-13-clause-ruled c = λ v f b r e is same.
    let w : ℕ → ℕ = word_in c.args.given.now.words in
    let t : TextArgument = c.args.given.now.text in
    by_number (Ruled w t (call.Shared (shared.Share t))) c.args.service 13 c.in-13.is refl (λ v f b is same. ap (λ (o : Option (List ℕ)). by_ruling (Text ∷ ToWord ∷ []) b (sharing b.known b.number (name_by o))) (text_is v f b (w 3) (w 2) t same is.0)) r e v f b is same

pub returns-in-13-clause-aims : goal.returns-in-13-clause-aims
unfolding row_of
returns-in-13-clause-aims c = λ v f r e is.
    let w : ℕ → ℕ = word_in c.args.given.now.words in
    let t : TextArgument = c.args.given.now.text in
    by_number (Aims w t (call.Shared (shared.Share t))) c.args.service 13 c.in-13.is refl (λ v f is. aimed v f w t (Text ∷ ToWord ∷ []) is) r e v f is

pub returns-in-14-clause-ruled : goal.returns-in-14-clause-ruled
unfolding row_of
returns-in-14-clause-ruled c = λ v f b r e is same.
    let w : ℕ → ℕ = word_in c.args.given.now.words in
    let t : TextArgument = c.args.given.now.text in
    by_number (Ruled w t (call.Shared (shared.Give (w 3) (w 2)))) c.args.service 14 c.in-14.is refl (λ v f b is same. refl) r e v f b is same

pub returns-in-14-clause-aims : goal.returns-in-14-clause-aims
unfolding row_of
returns-in-14-clause-aims c = λ v f r e is.
    let w : ℕ → ℕ = word_in c.args.given.now.words in
    let t : TextArgument = c.args.given.now.text in
    by_number (Aims w t (call.Shared (shared.Give (w 3) (w 2)))) c.args.service 14 c.in-14.is refl (λ v f is. refl) r e v f is

pub returns-in-15-clause-ruled : goal.returns-in-15-clause-ruled
unfolding row_of
returns-in-15-clause-ruled c = λ v f b r e is same.
    let w : ℕ → ℕ = word_in c.args.given.now.words in
    let t : TextArgument = c.args.given.now.text in
    by_number (Ruled w t (call.Shared (shared.Get (w 0)))) c.args.service 15 c.in-15.is refl (λ v f b is same. refl) r e v f b is same

pub returns-in-15-clause-aims : goal.returns-in-15-clause-aims
unfolding row_of
returns-in-15-clause-aims c = λ v f r e is.
    let w : ℕ → ℕ = word_in c.args.given.now.words in
    let t : TextArgument = c.args.given.now.text in
    by_number (Aims w t (call.Shared (shared.Get (w 0)))) c.args.service 15 c.in-15.is refl (λ v f is. refl) r e v f is

pub returns-in-16-clause-ruled : goal.returns-in-16-clause-ruled
unfolding row_of
returns-in-16-clause-ruled c = λ v f b r e is same.
    let w : ℕ → ℕ = word_in c.args.given.now.words in
    let t : TextArgument = c.args.given.now.text in
    by_number (Ruled w t (call.Huge (huge.Alloc (w 5) (w 4) (w 1) (w 0)))) c.args.service 16 c.in-16.is refl (λ v f b is same. refl) r e v f b is same

pub returns-in-16-clause-aims : goal.returns-in-16-clause-aims
unfolding row_of
returns-in-16-clause-aims c = λ v f r e is.
    let w : ℕ → ℕ = word_in c.args.given.now.words in
    let t : TextArgument = c.args.given.now.text in
    by_number (Aims w t (call.Huge (huge.Alloc (w 5) (w 4) (w 1) (w 0)))) c.args.service 16 c.in-16.is refl (λ v f is. refl) r e v f is

pub returns-in-17-clause-ruled : goal.returns-in-17-clause-ruled
unfolding row_of
returns-in-17-clause-ruled c = λ v f b r e is same.
    let w : ℕ → ℕ = word_in c.args.given.now.words in
    let t : TextArgument = c.args.given.now.text in
    by_number (Ruled w t (call.Huge (huge.Realloc (w 2) (w 1) (w 0)))) c.args.service 17 c.in-17.is refl (λ v f b is same. refl) r e v f b is same

pub returns-in-17-clause-aims : goal.returns-in-17-clause-aims
unfolding row_of
returns-in-17-clause-aims c = λ v f r e is.
    let w : ℕ → ℕ = word_in c.args.given.now.words in
    let t : TextArgument = c.args.given.now.text in
    by_number (Aims w t (call.Huge (huge.Realloc (w 2) (w 1) (w 0)))) c.args.service 17 c.in-17.is refl (λ v f is. refl) r e v f is

pub returns-in-18-clause-ruled : goal.returns-in-18-clause-ruled
unfolding row_of
returns-in-18-clause-ruled c = λ v f b r e is same.
    let w : ℕ → ℕ = word_in c.args.given.now.words in
    let t : TextArgument = c.args.given.now.text in
    by_number (Ruled w t (call.Huge huge.Shift)) c.args.service 18 c.in-18.is refl (λ v f b is same. refl) r e v f b is same

pub returns-in-18-clause-aims : goal.returns-in-18-clause-aims
unfolding row_of
returns-in-18-clause-aims c = λ v f r e is.
    let w : ℕ → ℕ = word_in c.args.given.now.words in
    let t : TextArgument = c.args.given.now.text in
    by_number (Aims w t (call.Huge huge.Shift)) c.args.service 18 c.in-18.is refl (λ v f is. refl) r e v f is
