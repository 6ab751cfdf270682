-- What is noted of a name, of a library or of the services, holds of each import of it.
use Rattle.std.proofs.Common.{◌≡◌, ◌≢◌, ℕ, ◌+◌, ◌*◌, ◌<◌, ◌≤◌, ◌==◌, Bool, true, false, List, Option, Some, None, get_or, length, map, replicate, set, Ok, refl, sym, ap, ◌∙◌, arith, eq-eqb, inl, inr}
use Rattle.std.specs.Prelude.{IfSome, option_map}
use Rattle.std.proofs.lemmas.List.{get_or-replicate, get_or_past, get_or-set_same, get_or-set_other, length-replicate, length-set}
use Rattle.std.proofs.lemmas.Bool.{cases_lt, eqb-true}
use Rattle.o2_base.specs.declared.faults.ModuleFault.{ModuleFault}
use Rattle.o2_ne_segs.specs.declared.reloc.Reloc.{Reloc}
use Rattle.o2_image.specs.Getters.{imported_name, nth}
use Rattle.o2_image.specs.Images.{Target}
use Rattle.o2_image.specs.Parts.{Parts}
use Rattle.o2_image.specs.Targets.{target_kind}
use Rattle.o2_dynlink.specs.declared.leads.Lead.{Lead}
use Rattle.o2_dynlink.specs.declared.leads.Lead.TheVariants.{Services, Library, Nowhere}
use Rattle.o2_dynlink.specs.Imports.{base_for, entry_or, exported_as, found_at, import_name, import_text, imported}
use Rattle.o2_dynlink.specs.Leads.{lead_of, lead_to}
use Rattle.o2_dynlink.specs.Listed.{is_doscalls, library_named}
use Rattle.o2_dynlink.specs.Memo.{IsMemo, block_of, memo_at}
use Rattle.o2_dynlink.proofs.Leading.{library_exists, library_is, nth_mapped}

-- an entry that is there is the same, whatever is told where it isn't
entry_same : (base : ℕ) (o : Option (ℕ × ℕ)) (e d : ModuleFault) (t : Target) → entry_or base o e ≡ Ok t → entry_or base o d ≡ Ok t
entry_same base None e d t h = absurd cc
entry_same base (Some p) e d t h = h

exported_same : (base : ℕ) (a b text : List ℕ) (m : Option Parts) (t : Target) → exported_as base a text m ≡ Ok t → exported_as base b text m ≡ Ok t
exported_same base a b text None t h = absurd cc
exported_same base a b text (Some m) t h = entry_same base _ _ _ t h

not_services : (o : Option ℕ) → lead_to o ≡ Services → ⊥
not_services None h = cc
not_services (Some place) h = cc

services_is : (ms : List Parts) (name : List ℕ) → lead_of ms name ≡ Services → is_doscalls name ≡ true
services_is ms name h = go (is_doscalls name) refl
  where
    go : (b : Bool) → is_doscalls name ≡ b → is_doscalls name ≡ true
    go true e = e
    go false e = absurd (not_services (library_named ms name) (rw e at h))

-- no library has the block of the services
not_first : (ms : List Parts) (name : List ℕ) (place : ℕ) → lead_of ms name ≡ Library place → 1 ≤ place
not_first ms name place e = let there = library_exists ms name place (sym e) in there.0

module _ (ms : List Parts) (bases : List ℕ) (shim : Option ℕ) where
  name_is : (name text : List ℕ) (place : ℕ) → Library place ≡ lead_of ms name
      → import_name ms bases shim name text ≡ exported_as (base_for bases (Some place)) name text (found_at ms (Some place))
  name_is name text place lead =
      let is = library_is ms name place lead in
      rw (is.0, is.1) refl

  -- where a name of a library leads doesn't hang on how the library is written, and likewise for the services
  of_library : (a b : List ℕ) (text : Option (List ℕ)) (place : ℕ) (t : Target) → Library place ≡ lead_of ms a → Library place ≡ lead_of ms b
      → import_text ms bases shim a text ≡ Ok t → import_text ms bases shim b text ≡ Ok t
  of_library a b None place t la lb h = h
  of_library a b (Some text) place t la lb h =
      name_is b text place lb ∙ exported_same (base_for bases (Some place)) a b text (found_at ms (Some place)) t (sym (name_is a text place la) ∙ h)

  of_services : (a b : List ℕ) (text : Option (List ℕ)) (t : Target) → is_doscalls a ≡ true → is_doscalls b ≡ true
      → import_text ms bases shim a text ≡ Ok t → import_text ms bases shim b text ≡ Ok t
  of_services a b None t ia ib h = h
  of_services a b (Some text) t ia ib h = rw ib (rw ia at h)

  text_same : (a b : List ℕ) (text : Option (List ℕ)) (block : ℕ) (t : Target) → block_of (lead_of ms a) ≡ Some block → block_of (lead_of ms b) ≡ Some block
      → import_text ms bases shim a text ≡ Ok t → import_text ms bases shim b text ≡ Ok t
  text_same a b text block t ba bb h = go (lead_of ms a) (lead_of ms b) refl refl
    where
      at : (place : ℕ) (name : List ℕ) → lead_of ms name ≡ Library place → block_of (lead_of ms name) ≡ Some block → place ≡ block
      at place name e is = let same = rw e at is in cc

      first : (c d : List ℕ) (q : ℕ) → lead_of ms c ≡ Services → lead_of ms d ≡ Library q → block_of (lead_of ms c) ≡ Some block → block_of (lead_of ms d) ≡ Some block → ⊥
      first c d q ec ed bc bd =
          let zero_is : 0 ≡ block = (let same = rw ec at bc in cc) in
          let q_is : q ≡ block = at q d ed bd in
          let low = not_first ms d q ed in
          omega (arith, zero_is, q_is, low)

      go : (la lb : Lead) → lead_of ms a ≡ la → lead_of ms b ≡ lb → import_text ms bases shim b text ≡ Ok t
      go Nowhere lb ea eb = absurd (let bad = rw ea at ba in cc)
      go Services Nowhere ea eb = absurd (let bad = rw eb at bb in cc)
      go (Library p) Nowhere ea eb = absurd (let bad = rw eb at bb in cc)
      go Services Services ea eb = of_services a b text t (services_is ms a ea) (services_is ms b eb) h
      go Services (Library q) ea eb = absurd (first a b q ea eb ba bb)
      go (Library p) Services ea eb = absurd (first b a p eb ea bb ba)
      go (Library p) (Library q) ea eb =
          let pe : p ≡ block = at p a ea ba in
          let qe : q ≡ block = at q b eb bb in
          of_library a b text block t (rw pe at (sym ea)) (rw qe at (sym eb)) h

  -- what the memo has of a name that a record imports is where it leads
  pub known_named : (ordinals : List (ℕ × ℕ)) (m : Parts) (memo : List (Option Target)) (r : Reloc) (lead : Lead) (block : ℕ) (found : Option Target)
      → IsMemo ms bases shim m memo → r.second < 65536 → target_kind r ≡ 2 → nth (map (lead_of ms) m.references) r.first ≡ Some lead
      → block_of lead ≡ Some block → found ≡ get_or memo (memo_at block r.second) None
      → IfSome found (λ t. imported ms bases shim ordinals m r (nth m.references r.first) ≡ Ok t)
  known_named ordinals m memo r lead block found is low kind leads of held =
      go (nth m.references r.first) (sym (nth_mapped (lead_of ms) m.references r.first) ∙ leads) found held
    where
      go : (name : Option (List ℕ)) → option_map (lead_of ms) name ≡ Some lead → (o : Option Target) → o ≡ get_or memo (memo_at block r.second) None
          → IfSome o (λ t. imported ms bases shim ordinals m r name ≡ Ok t)
      go None h o e = absurd cc
      go (Some name) h None e = tt
      go (Some name) h (Some t) e =
          let to : lead_of ms name ≡ lead = cc in
          let other : (target_kind r == 1) ≡ false = rw kind refl in
          rw other (is block r.second t name low (sym e) (rw to of))

  pub noted : (m : Parts) (memo after : List (Option Target)) (block at : ℕ) (t : Target) (name : List ℕ) → IsMemo ms bases shim m memo → at < 65536
      → after ≡ set memo (memo_at block at) (Some t) → block_of (lead_of ms name) ≡ Some block → import_text ms bases shim name (imported_name m at) ≡ Ok t
      → IsMemo ms bases shim m after
  noted m memo after block at t name is low changed lead leads block2 at2 t2 name2 low2 held lead2 = go (memo_at block2 at2 == memo_at block at) refl
    where
      now : get_or (set memo (memo_at block at) (Some t)) (memo_at block2 at2) None ≡ Some t2
      now = ap (λ (xs : List (Option Target)). get_or xs (memo_at block2 at2) None) (sym changed) ∙ held

      go : (b : Bool) → (memo_at block2 at2 == memo_at block at) ≡ b → import_text ms bases shim name2 (imported_name m at2) ≡ Ok t2
      go false e =
          let other : memo_at block2 at2 ≢ memo_at block at = λ q. (let yes : (memo_at block2 at2 == memo_at block at) ≡ true = eq-eqb _ _ q in let bad = sym e ∙ yes in cc) in
          is block2 at2 t2 name2 low2 (sym (get_or-set_other memo (memo_at block at) (memo_at block2 at2) (Some t) None other) ∙ now) lead2
      go true e =
          let same : block2 * 65536 + at2 ≡ block * 65536 + at = eqb-true _ _ e in
          let blocks : block2 ≡ block = omega arith in
          let ats : at2 ≡ at = omega arith in
          here blocks ats
        where
          here : block2 ≡ block → at2 ≡ at → import_text ms bases shim name2 (imported_name m at2) ≡ Ok t2
          here p q = elim (cases_lt (memo_at block at) (length memo)) [
            | inl lt ↦
                let at_is : get_or (set memo (memo_at block at) (Some t)) (memo_at block at) None ≡ Some t2 = rw (p, q) at now in
                let one : t ≡ t2 = (let e = sym (get_or-set_same memo (memo_at block at) (Some t) None lt) ∙ at_is in cc) in
                rw q (text_same name name2 (imported_name m at) block t2 lead (rw p at lead2) (leads ∙ ap (λ x. Ok x) one))
            | inr le ↦
                let at_is : get_or (set memo (memo_at block at) (Some t)) (memo_at block at) None ≡ Some t2 = rw (p, q) at now in
                (let len = length-set memo (memo_at block at) (Some t) in
                let none : get_or (set memo (memo_at block at) (Some t)) (memo_at block at) None ≡ None =
                get_or_past (set memo (memo_at block at) (Some t)) (memo_at block at) None (omega (arith, len, le)) in
                absurd (let bad = sym none ∙ at_is in cc))
          ]

  pub empty_memo : (m : Parts) (memo : List (Option Target)) → ((i : ℕ) → get_or memo i None ≡ None) → IsMemo ms bases shim m memo
  empty_memo m memo none place at t name low held lead = absurd (let bad = sym (none (memo_at place at)) ∙ held in cc)

-- as long as nothing is noted nothing is known
pub nothing_known : (memo : List (Option Target)) (n : ℕ) → memo ≡ replicate n None → (i : ℕ) → get_or memo i None ≡ None
nothing_known memo n is i =
    let len : length memo ≡ n = ap length is ∙ length-replicate n None in
    elim (cases_lt i n) [
      | inl lt ↦ ap (λ xs. get_or xs i None) is ∙ get_or-replicate n i None None lt
      | inr le ↦ get_or_past memo i None (omega (arith, len, le))
    ]
