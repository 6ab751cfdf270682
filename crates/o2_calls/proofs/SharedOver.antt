-- The calls by which processes share segments, over a machine that stands for a world.
use Rattle.std.proofs.Common.{◌≡◌, ℕ, ◌/◌, ◌≤◌, ◌++◌, ◌||◌, nat_le, Bool, true, false, cond, List, [], ◌∷◌, Option, Some, None, is_some, ap, refl, sym, ◌∙◌, subst, arith}
use Rattle.std.specs.List.{list_any}
use Rattle.std.proofs.lemmas.Bool.{cond-false}
use Rattle.o2_base.specs.Selectors.{selector_of}
use Rattle.o2_image.specs.ImageList.{ImageList}
use Rattle.o2_regions.specs.declared.held.Region.TheVariants.{Shared}
use Rattle.o2_regions.specs.declared.answer.Answer.{Answer}
use Rattle.o2_isa.specs.declared.cpu.Cpu.{Cpu}
use Rattle.o2_regions.specs.Maps.{Maps}
use Rattle.o2_store.specs.Shelf.{Shelf}
use Rattle.o2_isa.specs.View.{is_local}
use Rattle.o2_world.specs.Changes.{Holds, swept, takes, with_all, with_change, with_changes}
use Rattle.o2_world.specs.Known.{Known, known_of, text_name}
use Rattle.o2_world.specs.Rulings.{Ruling, free_index, grants, held_under, is_later, members, refusal}
use Rattle.o2_world.specs.SharedRulings.{each_more, getting, getting_at, getting_from, giving, giving_of, holder, index_of, lacks_flag, naming, naming_at, one_more, sharing, sharing_at, sharing_from, sharing_of}
use Rattle.o2_world.specs.World.{ByCall, Held, Setting, World}
use Rattle.o2_gate.specs.declared.requests.SharedArguments.{SharedArguments}
use Rattle.o2_gate.specs.declared.requests.SharedArguments.TheVariants.{Name, Share, Give, Get}
use Rattle.o2_stands.specs.Knows.{KnowsAs, known_in, others_of}
use Rattle.o2_stands.specs.Parts.{Parts}
use Rattle.o2_stands.specs.Stands.{Matches}
use Rattle.o2_stands.proofs.Knowing.{known_is}
use Rattle.o2_stands.proofs.Ruled.{but_taken, chosen_same}
use Rattle.o2_stands.proofs.Matching.{matched_by}
use Rattle.o2_changes.specs.Holding.{KeepsHolds}
use Rattle.o2_regions.specs.declared.answer.Roomed.{Roomed}
use Rattle.o2_regions.specs.declared.answer.Roomed.TheVariants.{Done, NoRoom, SwapFull, SwapFault}
use Rattle.o2_segs.specs.Limits.{KeepsLimits, KeepsLimitsBy, made_in}
use Rattle.o2_segs.proofs.Limits.{limits_by}
use Rattle.o2_shared.specs.declared.names.Name.{Name as NameThere}
use Rattle.o2_shared.specs.Shares.{StillHolds}
use Rattle.o2_shared.specs.Texts.{AreOnce, AreTexts}
use Rattle.o2_calls.specs.Acts.{IsOver, most_made}
use Rattle.o2_calls.specs.SharedActs.{AreSpelled, IsSharedRow, Spells, shared_ruling}

-- The rulings go by what is known.

module _ (m : Maps) (k l : Known) (same : KnowsAs m k l) where
  abbrev x : Known
  x = record l { taken = k.taken }

  same_free : free_index x 0 ≡ free_index l 0
  same_free = chosen_same (k.taken 0) (l.taken 0) 4096 8192 1 (λ i from to. same.taken Shared i (record { region = tt; from = from; to = to }))

  at_index : (n size : ℕ) (name : List ℕ) (i : Option ℕ) → naming_at x n size name i ≡ naming_at l n size name i
  at_index n size name None = refl
  at_index n size name (Some i) = refl

  same_naming : (n size : ℕ) (name : Option (List ℕ)) → naming k n size name ≡ naming l n size name
  same_naming n size None = refl
  same_naming n size (Some name) =
      ap (λ (z : Known). naming z n size (Some name)) (but_taken m k l same)
      ∙ ap (λ (r : Ruling). cond (is_some (l.text name)) (refusal 183) (cond (nat_le l.most l.count) (refusal 8) r)) (at_index n size name (free_index x 0) ∙ ap (naming_at l n size name) same_free)

  pub same_shared : (a : SharedArguments) (n : ℕ) (c : Cpu) → shared_ruling a k n c ≡ shared_ruling a l n c
  same_shared (Name size t) n c = same_naming n size _
  same_shared (Share t) n c = ap (λ (z : Known). shared_ruling (Share t) z n c) (but_taken m k l same)
  same_shared (Give selector to) n c = ap (λ (z : Known). shared_ruling (Give selector to) z n c) (but_taken m k l same)
  same_shared (Get selector) n c = ap (λ (z : Known). shared_ruling (Get selector) z n c) (but_taken m k l same)

-- The row of the ruling over the machine is that of the ruling over the world.
module _ (sh : Shelf) (m : Maps) (images : ImageList) (block : ℕ → List ℕ) (p : Parts) (s : Setting) (w : World) (over : IsOver sh m images block p s w) (pid : ℕ) where
  pub shared_row : {a b : SharedArguments} {r : Ruling} {t : Shelf} {n : Maps} {names : List (Option NameThere)} {x : Answer}
      → (c : Cpu) → a ≡ b → r ≡ shared_ruling b (known_in p (others_of s w)) pid c → IsSharedRow r p w pid t n names x → IsSharedRow (shared_ruling a (known_of s w) pid c) p w pid t n names x
  shared_row {b} {t} {n} {names} {x} c is same row =
      let known = same_shared p.maps (known_of s w) (known_in p (others_of s w)) (known_is p s w over.lawful over.set over.stands) b pid c in
      subst (λ (z : SharedArguments). IsSharedRow (shared_ruling z (known_of s w) pid c) p w pid t n names x) (sym is)
      (subst (λ (q : Ruling). IsSharedRow q p w pid t n names x) (same ∙ sym known) row)

  pub matches_now : Matches p w
  matches_now = matched_by p w.processes w.names w.next_name w.reserved over.stands

-- where the store stays
pub maps_now : (p : Parts) (s t : Shelf) (n : Maps) (u : World) → p.shelf ≡ s → t ≡ s → Matches (record p { maps = n }) u → Matches (record p { shelf = t; maps = n }) u
maps_now p s t n u is same q = subst (λ (x : Shelf). Matches (record p { shelf = x; maps = n }) u) (is ∙ sym same) q

-- Calls that hold more leave the texts.

more_each : (k : Known) (from to : ℕ) (is : List ℕ) (w : World) → (list_any takes (each_more k from to is) ≡ false) × ((with_changes w (each_more k from to is)).texts ≡ w.texts)
unfolding with_changes
more_each k from to [] w = (refl, refl)
more_each k from to (i ∷ is) w = go (k.held from i) (more_each k from to is)
  where
    go : (o : Option Held) → ((u : World) → (list_any takes (each_more k from to is) ≡ false) × ((with_changes u (each_more k from to is)).texts ≡ u.texts))
        → (list_any takes (one_more to i o ++ each_more k from to is) ≡ false) × ((with_changes w (one_more to i o ++ each_more k from to is)).texts ≡ w.texts)
    go None rest = rest w
    go (Some h) rest = rest (with_change w (Holds to i (record h { holds = 1; cause = ByCall })))

-- the texts of a world behind these changes are those before
abbrev KeepTexts : World → Ruling → Type 0
KeepTexts w r = (with_all w r.changes).texts ≡ w.texts

module _ (w : World) where
  either : (b : Bool) (r q : Ruling) → KeepTexts w r → KeepTexts w q → KeepTexts w (cond b r q)
  either true r q h k = h
  either false r q h k = k

  refused : (error : ℕ) → KeepTexts w (refusal error)
  unfolding with_changes
  refused error = refl

  granted : (k : Known) (from to value : ℕ) (is : List ℕ) → KeepTexts w (grants value (each_more k from to is))
  granted k from to value is =
      let more = more_each k from to is w in
      ap (λ (u : World). u.texts) (cond-false (list_any takes (each_more k from to is)) (swept (with_changes w (each_more k from to is))) (with_changes w (each_more k from to is)) more.0) ∙ more.1

  share_from : (k : Known) (n i : ℕ) (from : Option ℕ) → KeepTexts w (sharing_from k n i from)
  share_from k n i None = refused 2
  share_from k n i (Some from) = granted k from n (selector_of i) (i ∷ [])

  share_at : (k : Known) (n : ℕ) (i : Option ℕ) → KeepTexts w (sharing_at k n i)
  share_at k n None = refused 2
  share_at k n (Some i) = share_from k n i (holder k i)

  share_of : (k : Known) (n : ℕ) (q : Option ℕ) → KeepTexts w (sharing_of k n q)
  share_of k n None = refused 2
  share_of k n (Some q) = share_at k n (index_of k q)

  pub share_texts : (k : Known) (n : ℕ) (name : Option (List ℕ)) → KeepTexts w (sharing k n name)
  share_texts k n None = refused 123
  share_texts k n (Some name) = share_of k n (k.text name)

  give_of : (k : Known) (n i to : ℕ) (o : Option Held) → KeepTexts w (giving_of k n i to o)
  give_of k n i to None = refused 5
  give_of k n i to (Some h) = either (is_later i h || lacks_flag k 0 n (members k n i h)) _ _ (refused 5) (either (k.lives to) _ _ (granted k n to (selector_of i) (members k n i h)) (refused 303))

  pub give_texts : (k : Known) (n selector to : ℕ) → KeepTexts w (giving k n selector to)
  give_texts k n selector to = give_of k n (selector / 8) to (held_under k n selector)

  get_from : (k : Known) (n i from : ℕ) (o : Option Held) → KeepTexts w (getting_from k n i from o)
  get_from k n i from None = refused 5
  get_from k n i from (Some h) = either (is_later i h || lacks_flag k 1 from (members k from i h)) _ _ (refused 5) (granted k from n 0 (members k from i h))

  get_at : (k : Known) (n i : ℕ) (from : Option ℕ) → KeepTexts w (getting_at k n i from)
  get_at k n i None = refused 5
  get_at k n i (Some from) = get_from k n i from (k.held from i)

  pub get_texts : (k : Known) (n selector : ℕ) → KeepTexts w (getting k n selector)
  get_texts k n selector = either (is_local selector) _ _ (get_at k n (selector / 8) (holder k (selector / 8))) (refused 5)

pub spelled_same : (s t : Shelf) (m : Maps) (names after : List (Option NameThere)) (ends : List Bool) (p : Parts) (w u : World) → Spells s m names ends p w → t ≡ s → after ≡ names → u.texts ≡ w.texts → AreSpelled t after u
spelled_same s t m names after ends p w u x store same texts = record {
  texts = subst (λ (z : List (List ℕ × ℕ)). AreTexts t after (text_name z)) (sym texts) (subst (λ (z : Shelf). AreTexts z after (text_name w.texts)) (sym store) (subst (λ (z : List (Option NameThere)). AreTexts s z (text_name w.texts)) (sym same) x.texts));
  once = subst AreOnce (sym texts) x.once;
}

-- What goes on to hold.

pub keeps_still : (m n : Maps) → KeepsHolds m n → StillHolds m n
keeps_still m n keeps = record { held = λ q j h e. (h, keeps.held q j h e, refl, omega arith); rights = keeps.rights }

pub limits_to : (s t : Shelf) (m n : Maps) (more most : ℕ) → more ≤ most → KeepsLimitsBy s m t n more 1 → KeepsLimitsBy s m t n most 1
limits_to s t m n more most less x = record {
  size = x.size;
  count = x.count;
  made = (let p = x.made in omega (arith, p, less));
  grows = x.grows;
  few = x.few;
  shares = x.shares;
}

pub limits_by_more : (s t : Shelf) (m n : Maps) → KeepsLimitsBy s m t n 0 1 → KeepsLimitsBy s m t n 1 1
limits_by_more s t m n x = limits_to s t m n 0 1 (omega arith) x

-- where what is made may be held
pub limits_by_made : (s t : Shelf) (m n : Maps) (r : Roomed) → KeepsLimits s m t n (made_in r) → KeepsLimitsBy s m t n (most_made r) (made_in r)
limits_by_made s t m n (Done a) x = limits_to s t m n 1 4096 (omega arith) (limits_by s t m n 1 x)
limits_by_made s t m n NoRoom x = x
limits_by_made s t m n SwapFull x = x
limits_by_made s t m n SwapFault x = x
