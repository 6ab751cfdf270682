-- The words of a call's arguments on the stack.
use Rattle.std.proofs.Common.{◌≡◌, ℕ, zero, suc, ◌+◌, ◌*◌, ◌%◌, ◌<◌, ◌==◌, Bool, true, false, ◌&&◌, List, length, arith, refl, sym, subst, ◌∙◌, Option, Some, None}
use Rattle.std.proofs.lemmas.List.{get_or-set_other, get_or-set_same}
use Rattle.std.specs.Prelude.{Result, Ok, Err, is_ok, slice_set}
use Rattle.std.specs.Result.{result_unwrap_or}
use Rattle.o2_isa.specs.declared.cpu.Cpu.{Cpu}
use Rattle.o2_isa.specs.declared.instr.Sreg.TheVariants.{Ss}
use Rattle.o2_isa.specs.declared.instr.Width.TheVariants.{Word}
use Rattle.o2_isa.specs.View.{View, Filling, IsBound, no_rest, no_hidden, whole}
use Rattle.o2_isa.proofs.Alike.{read_whole, read_unseen}
use Rattle.o2_world.specs.Calls.{word_of, argument, has_arguments}
use Rattle.o2_gate.specs.Befores.{boundless, given}
use Rattle.o2_world.specs.declared.types.Slot.{Slot}
use Rattle.o2_world.specs.Slots.{words_in}
use Rattle.o2_gate.specs.Given.{AreRead, AreSame, AreWords, word_in}

-- SS is present where the registers name what is present
pub word_boundless : (f : Filling) (v : View) (c : Cpu) (i : ℕ) → IsBound v → word_of v c i ≡ word_of (boundless f v) c i
word_boundless f v c i bound =
    read_whole f v Ss ((c.sp + 2 * i) % 65536) Word bound ∙ sym (read_unseen no_rest no_hidden (whole f v) Ss ((c.sp + 2 * i) % 65536) Word)

both : (a b : Bool) (i n : ℕ) → (i ≡ n → b ≡ false) → (i < n → a ≡ false) → i < suc n → a && b ≡ false
both a b i n here before lt = grind arith

-- a word that isn't there is one too few
pub fails_at : (v : View) (c : Cpu) (n i : ℕ) → i < n → is_ok (word_of v c i) ≡ false → has_arguments v c n ≡ false
fails_at v c zero i lt e = absurd (omega arith)
fails_at v c (suc n) i lt e = both (has_arguments v c n) (is_ok (word_of v c n)) i n (λ same. rw same at e) (λ below. fails_at v c n i below e) lt

pub record IsWord (v : View) (c : Cpu) (i x : ℕ) : Type 0 where
  pub there : is_ok (word_of v c i) ≡ true
  pub value : argument v c i ≡ x

some_word : (r : Result ℕ (ℕ × ℕ)) (x : ℕ) → Some x ≡ given r → (is_ok r ≡ true) × (result_unwrap_or r 0 ≡ x)
some_word (Ok y) x e = let same : y ≡ x = cc in (refl, same)
some_word (Err y) x e = absurd (cc)

pub word_there : (v : View) (c : Cpu) (i x : ℕ) (o : Option ℕ) → o ≡ given (word_of v c i) → o ≡ Some x → IsWord v c i x
unfolding argument
word_there v c i x o e is = let w = some_word (word_of v c i) x (sym is ∙ e) in record { there = w.0; value = w.1 }

none_word : (r : Result ℕ (ℕ × ℕ)) → None ≡ given r → is_ok r ≡ false
none_word (Ok y) e = absurd (cc)
none_word (Err y) e = refl

pub no_word : (v : View) (c : Cpu) (n i : ℕ) (o : Option ℕ) → i < n → o ≡ given (word_of v c i) → o ≡ None → has_arguments v c n ≡ false
no_word v c n i o lt e is = fails_at v c n i lt (none_word (word_of v c i) (sym is ∙ e))

-- One word more.

pub has_more : (v : View) (c : Cpu) (n x : ℕ) → has_arguments v c n ≡ true → IsWord v c n x → has_arguments v c (n + 1) ≡ true
has_more v c n x has is = rw (plus_one n, has, is.there) refl
  where
    plus_one : (k : ℕ) → k + 1 ≡ suc k
    plus_one k = omega arith

pub same_more : (v : View) (c : Cpu) (words : List ℕ) (n x : ℕ) → n < length words → AreSame n (argument v c) (word_in words) → IsWord v c n x
    → AreSame (n + 1) (argument v c) (word_in (slice_set words n x))
same_more v c words n x inside same is i lt = go (i == n) refl
  where
    at : (i == n) ≡ true → i ≡ n
    at e = grind arith

    off : (i == n) ≡ false → i ≡ n → ⊥
    off e f = grind arith

    below : (i == n) ≡ false → i < n
    below e = grind (arith, lt)

    go : (b : Bool) → (i == n) ≡ b → argument v c i ≡ word_in (slice_set words n x) i
    go true e =
        subst (λ (k : ℕ). argument v c k ≡ word_in (slice_set words n x) k) (sym (at e)) (is.value ∙ sym (get_or-set_same words n x 0 inside))
    go false e = same i (below e) ∙ sym (get_or-set_other words n i x 0 (off e))

-- the words of a call
pub read_by : (v : View) (c : Cpu) (slots : List Slot) (words : List ℕ) (n : ℕ) → n ≡ words_in slots → ((f : Filling) → IsBound v → AreWords (boundless f v) c n (Some words)) → AreRead v c slots words
read_by v c slots words n is told = record {
  has = λ f bound. subst (λ (k : ℕ). has_arguments (boundless f v) c k ≡ true) is (told f bound).0;
  same = λ f bound. subst (λ (k : ℕ). AreSame k (argument (boundless f v) c) (word_in words)) is (told f bound).1;
}
