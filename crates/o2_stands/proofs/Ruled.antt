-- A call on segments comes to the same by what is known of a machine as by what is known of its world.
use mathlib.Core.Path.{fun_ext}
use Rattle.std.proofs.Common.{◌≡◌, ◌⊎◌, inl, inr, ℕ, ◌<◌, ◌≤◌, ◌==◌, ◌/◌, ◌%◌, ◌||◌, not, nat_le, nat_lt, Bool, true, false, List, Option, Some, None, if◌then◌else◌, ap, sym, ◌∙◌, refl, arith, subst}
use Rattle.o2_desc.specs.Bits.{is_writable}
use Rattle.o2_desc.specs.Choice.{IsChosen, IsRun, chosen}
use Rattle.o2_desc.proofs.Choices.{chosen_law, one_choice}
use Rattle.o2_isa.specs.declared.cpu.Cpu.{Cpu}
use Rattle.o2_regions.specs.declared.held.Region.TheVariants.{Private, Shared}
use Rattle.o2_regions.specs.Maps.{Maps, IsProcess}
use Rattle.o2_world.specs.World.{Held}
use Rattle.o2_world.specs.Known.{Known, Marks}
use Rattle.o2_world.specs.Rulings.{aliasing, aliasing_at, aliasing_of, allocation, allocation_at, free_index, freeing, freeing_cpu, held_under, is_in_run, locking, reallocation, refusal, region_by, sizing, unlocking}
use Rattle.o2_stands.specs.Knows.{KnowsAs}

-- The index that is chosen goes by the indexes of its region alone.

agreeing_run : (f g : ℕ → Bool) (low end n i : ℕ) → ((j : ℕ) → low ≤ j → j < end → f j ≡ g j) → IsRun f low end n i → IsRun g low end n i
agreeing_run f g low end n i same run =
    (run.0, run.1, λ k from to. sym (same k (let a = run.0 in omega (arith, a, from)) (let b = run.1 in omega (arith, b, to))) ∙ run.2 k from to)

agreeing_choice : (f g : ℕ → Bool) (low end n : ℕ) (o : Option ℕ) → ((j : ℕ) → low ≤ j → j < end → f j ≡ g j) → IsChosen f low end n o → IsChosen g low end n o
agreeing_choice f g low end n None same none = λ j run. none j (agreeing_run g f low end n j (λ k a b. sym (same k a b)) run)
agreeing_choice f g low end n (Some i) same is = (agreeing_run f g low end n i same is.0, λ j less run. is.1 j less (agreeing_run g f low end n j (λ k a b. sym (same k a b)) run))

pub chosen_same : (f g : ℕ → Bool) (low end n : ℕ) → ((j : ℕ) → low ≤ j → j < end → f j ≡ g j) → chosen f low end n ≡ chosen g low end n
chosen_same f g low end n same =
    one_choice g low end n (chosen f low end n) (chosen g low end n) (agreeing_choice f g low end n (chosen f low end n) same (chosen_law f low end n)) (chosen_law g low end n)

abbrev knows : ((process index : ℕ) → Option Held) → (ℕ → Option Marks) → ((region index : ℕ) → Bool) → (List ℕ → Option ℕ) → (ℕ → Bool) → ℕ → (count most next avail : ℕ) → Known
knows held segment taken text lives processes count most next avail =
    record { held = held; segment = segment; taken = taken; text = text; lives = lives; processes = processes; count = count; most = most; next = next; avail = avail }

module _ (m : Maps) (k l : Known) (same : KnowsAs m k l) where
  abbrev x : Known
  x = record l { taken = k.taken }

  -- but for the indexes that are taken, all that is known is the same
  pub but_taken : k ≡ record l { taken = k.taken }
  but_taken =
      ap (λ (z : (process index : ℕ) → Option Held). knows z k.segment k.taken k.text k.lives k.processes k.count k.most k.next k.avail) (fun_ext (λ n. fun_ext (λ i. same.held n i)))
      ∙ (ap (λ (z : ℕ → Option Marks). knows l.held z k.taken k.text k.lives k.processes k.count k.most k.next k.avail) (fun_ext (λ n. same.segment n))
      ∙ (ap (λ (z : List ℕ → Option ℕ). knows l.held l.segment k.taken z k.lives k.processes k.count k.most k.next k.avail) (fun_ext (λ t. same.text t))
      ∙ (ap (λ (z : ℕ → Bool). knows l.held l.segment k.taken l.text z k.processes k.count k.most k.next k.avail) (fun_ext (λ n. same.lives n))
      ∙ (ap (λ (z : ℕ). knows l.held l.segment k.taken l.text l.lives z k.count k.most k.next k.avail) same.processes
      ∙ (ap (λ (z : ℕ). knows l.held l.segment k.taken l.text l.lives l.processes z k.most k.next k.avail) same.count
      ∙ (ap (λ (z : ℕ). knows l.held l.segment k.taken l.text l.lives l.processes l.count z k.next k.avail) same.most
      ∙ (ap (λ (z : ℕ). knows l.held l.segment k.taken l.text l.lives l.processes l.count l.most z k.avail) same.next
      ∙ ap (λ (z : ℕ). knows l.held l.segment k.taken l.text l.lives l.processes l.count l.most l.next z) same.avail)))))))

  pub same_reallocation : (n size s : ℕ) → reallocation k n size s ≡ reallocation l n size s
  same_reallocation n size s = ap (λ (z : Known). reallocation z n size s) but_taken

  pub same_freeing : (n s : ℕ) (c : Cpu) → freeing k n s c ≡ freeing l n s c
  same_freeing n s c = ap (λ (z : Known). freeing z n s c) but_taken

  pub same_freeing_cpu : (n s : ℕ) (c : Cpu) → freeing_cpu k n s c ≡ freeing_cpu l n s c
  same_freeing_cpu n s c = ap (λ (z : Known). freeing_cpu z n s c) but_taken

  pub same_sizing : (n s : ℕ) → sizing k n s ≡ sizing l n s
  same_sizing n s = ap (λ (z : Known). sizing z n s) but_taken

  pub same_locking : (n s : ℕ) → locking k n s ≡ locking l n s
  same_locking n s = ap (λ (z : Known). locking z n s) but_taken

  pub same_unlocking : (n s : ℕ) → unlocking k n s ≡ unlocking l n s
  same_unlocking n s = ap (λ (z : Known). unlocking z n s) but_taken

  not_zero : (r : ℕ) → (r == 0) ≡ false → r ≡ 0 → ⊥
  not_zero r e f = grind arith

  same_index : (n r : ℕ) → IsProcess m n → (r ≡ n) ⊎ (r ≡ 0) → free_index x r ≡ free_index l r
  same_index n r process which = go (r == 0) refl
    where
      own : (r ≡ n) ⊎ (r ≡ 0) → (r ≡ 0 → ⊥) → r ≡ n
      own (inl e) some = e
      own (inr e) some = absurd (some e)

      go : (b : Bool) → (r == 0) ≡ b
          → (if b then chosen (k.taken 0) 4096 8192 1 else chosen (k.taken r) 1 4096 1) ≡ (if b then chosen (l.taken 0) 4096 8192 1 else chosen (l.taken r) 1 4096 1)
      go true is = chosen_same (k.taken 0) (l.taken 0) 4096 8192 1 (λ i from to. same.taken Shared i (record { region = tt; from = from; to = to }))
      go false is =
          let e : r ≡ n = own which (not_zero r is) in
          chosen_same (k.taken r) (l.taken r) 1 4096 1
          (λ i from to. subst (λ (q : ℕ). k.taken q i ≡ l.taken q i) (sym e) (same.taken (Private n) i (record { region = process; from = from; to = to })))

  pub same_allocation : (n size flags : ℕ) → IsProcess m n → allocation k n size flags ≡ allocation l n size flags
  same_allocation n size flags process =
      ap (λ (z : Known). allocation z n size flags) but_taken
      ∙ ap (λ (o : Option ℕ). if nat_lt 15 flags then refusal 87 else (if nat_le l.most l.count then refusal 8 else allocation_at l n size flags o)) (same_index n (region_by n flags) process (region_is (flags % 4 == 0)))
    where
      region_is : (b : Bool) → ((if b then n else 0) ≡ n) ⊎ ((if b then n else 0) ≡ 0)
      region_is true = inl refl
      region_is false = inr refl

  aliased_by : (n index : ℕ) (o : Option Held) → IsProcess m n → aliasing_of x n index o ≡ aliasing_of l n index o
  aliased_by n index None process = refl
  aliased_by n index (Some h) process =
      ap (λ (i : Option ℕ). if nat_le 4096 index || (not (is_writable h.rights) || is_in_run h) then refusal 5 else aliasing_at n h.name i) (same_index n n process (inl refl))

  pub same_aliasing : (n s : ℕ) → IsProcess m n → aliasing k n s ≡ aliasing l n s
  same_aliasing n s process = ap (λ (z : Known). aliasing z n s) but_taken ∙ aliased_by n (s / 8) (held_under l n s) process
