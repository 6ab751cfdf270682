-- What a command opens is linked of modules that passed their checks, and its processes have environments that fit.
use Rattle.std.proofs.Common.{◌≡◌, ℕ, ◌<◌, ◌&&◌, Bool, true, false, cond, List, [], ◌∷◌, ◌++◌, All, length, refl, subst, arith}
use Rattle.std.specs.Prelude.{IfOk, Option, Some, None, Result, Ok, Err, nat_lt}
use Rattle.std.specs.List.{list_all}
use Rattle.std.proofs.lemmas.List.Elements.{All-cons, All-nil, All-push}
use Rattle.o2_base.specs.declared.faults.MachineFault.TheVariants.{Limit}
use Rattle.o2_base.specs.declared.faults.Key.TheVariants as key
use Rattle.o2_base.specs.declared.faults.ModuleFault.TheVariants.{OutOfProfile}
use Rattle.o2_base.specs.declared.faults.Which.TheVariants.{FileLength}
use Rattle.o2_words.specs.declared.words.Verb.{Verb}
use Rattle.o2_words.specs.declared.words.Verb.TheVariants.{Exe, Run, Check, Dump, Bench}
use Rattle.o2_conf.specs.declared.conf.Conf.{Conf}
use Rattle.o2_conf.specs.Alone.{exe_setting}
use Rattle.o2_conf.specs.Setting.{setting}
use Rattle.o2_gen.specs.BenchCode.{bench_code, bench_data}
use Rattle.o2_gen.specs.BenchFile.{bench_file}
use Rattle.o2_gen.specs.BenchModule.{bench_module}
use Rattle.o2_gen.specs.BenchSetting.{bench_setting}
use Rattle.o2_gen.proofs.BenchReads.{reads}
use Rattle.o2_image.specs.Modules.{module_of}
use Rattle.o2_image.specs.Parts.{Parts}
use Rattle.o2_image.specs.Whole.{IsRunnable}
use Rattle.o2_dynlink.specs.declared.fault.LinkFault.{LinkFault}
use Rattle.o2_dynlink.specs.Linking.{IsLinked, linked_of}
use Rattle.o2_dynlink.specs.Outcome.{LinkedParts}
use Rattle.o2_open.specs.declared.fault.OpenFault.{OpenFault}
use Rattle.o2_open.specs.declared.fault.OpenFault.TheVariants as open_fault
use Rattle.o2_open.specs.declared.session.Session.{Session}
use Rattle.o2_open.specs.Loads.{◌>>=◌, Contents, exe_loaded, found, link_refusal, linked_in, loaded, machine_in, module_in, modules_in, run_loaded, under}
use Rattle.o2_cli_laws.specs.Files.{HoldBytes}
use Rattle.o2_cli_laws.proofs.Modules.{IsByte, runnable}
use Rattle.o2_cli_laws.proofs.Settings.{HasEnvironments, bare_fits, bench_fits, setting_fits}

then_ok : {A B : Type 0} (P : A → Type 0) (Q : B → Type 0) (r : Result A OpenFault) (k : A → Result B OpenFault) → IfOk r P → ((x : A) → P x → IfOk (k x) Q) → IfOk (r >>= k) Q
then_ok P Q (Ok x) k h next = next x h
then_ok P Q (Err f) k h next = tt

under_ok : {X F : Type 0} (P : X → Type 0) (refusal : F → OpenFault) (r : Result X F) → IfOk r P → IfOk (under refusal r) P
under_ok P refusal (Ok x) h = h
under_ok P refusal (Err fault) h = tt

-- linked modules that passed their checks, and environments that fit
pub record IsGood (s : Session) : Type 0 where
  pub linked : IsLinked s.conf s.linked
  pub fits : HasEnvironments s.conf

linked_good : (c : Conf) (ms : List Parts) → All IsRunnable ms → HasEnvironments c → IfOk (linked_in c ms) IsGood
linked_good c ms all fits = go (linked_of ms c) refl
  where
    go : (r : Result LinkedParts LinkFault) → linked_of ms c ≡ r → IfOk (under (link_refusal c) r >>= (λ (l : LinkedParts). Ok (record { conf = c; linked = l }))) IsGood
    go (Ok l) e = record { linked = (ms, (all, e)); fits = fits }
    go (Err fault) e = tt

-- a bench's own file
each_byte : (xs : List ℕ) → list_all (λ (b : ℕ). nat_lt b 256) xs ≡ true → All IsByte xs
each_byte [] e = All-nil IsByte
each_byte (x ∷ xs) e = All-cons IsByte x xs (less x (first (nat_lt x 256) _ e)) (each_byte xs (rest (nat_lt x 256) _ e))
  where
    less : (n : ℕ) → nat_lt n 256 ≡ true → n < 256
    less n e = grind arith

    first : (a b : Bool) → (a && b) ≡ true → a ≡ true
    first true b e = refl
    first false b e = cc

    rest : (a b : Bool) → (a && b) ≡ true → b ≡ true
    rest true b e = e
    rest false b e = cc

bench_bytes : All IsByte bench_file
unfolding bench_file bench_code bench_data
bench_bytes = each_byte bench_file refl

bench_runs : IsRunnable bench_module
bench_runs = subst (λ (r : Result Parts _). IfOk r IsRunnable) reads (runnable bench_file bench_bytes)

module _ (contents : Contents) (bytes : HoldBytes contents) where
  found_bytes : (name : List ℕ) (most : ℕ) (too_long : OpenFault) → IfOk (found name most too_long (contents name)) (All IsByte)
  found_bytes name most too_long = go (contents name) refl
    where
      by_length : (file : List ℕ) (t : Bool) → All IsByte file → IfOk {E = OpenFault} (cond t (Err too_long) (Ok file)) (All IsByte)
      by_length file true all = tt
      by_length file false all = all

      go : (o : Option (List ℕ)) → contents name ≡ o → IfOk (found name most too_long o) (All IsByte)
      go None e = tt
      go (Some file) e = by_length file (nat_lt most (length file)) (bytes name file e)

  module_runs : (name : List ℕ) → IfOk (module_in contents name) IsRunnable
  unfolding module_in
  module_runs name =
      then_ok (All IsByte) IsRunnable (found name 4194304 (open_fault.BadModule name (OutOfProfile FileLength)) (contents name)) _ (found_bytes name 4194304 (open_fault.BadModule name (OutOfProfile FileLength)))
      (λ file all. under_ok IsRunnable (open_fault.BadModule name) (module_of file) (runnable file all))

  modules_run : (names : List (List ℕ)) (so_far : List Parts) → All IsRunnable so_far → IfOk (modules_in contents names so_far) (All IsRunnable)
  modules_run [] so_far all = all
  modules_run (name ∷ names) so_far all =
      then_ok IsRunnable (All IsRunnable) (module_in contents name) _ (module_runs name) (λ m one. modules_run names (so_far ++ m ∷ []) (All-push IsRunnable so_far m all one))

  machine_fits : (name : List ℕ) → IfOk (machine_in contents name) HasEnvironments
  unfolding machine_in
  machine_fits name =
      then_ok (All IsByte) HasEnvironments (found name 1048576 (open_fault.BadMachine (Limit key.File)) (contents name)) _ (found_bytes name 1048576 (open_fault.BadMachine (Limit key.File)))
      (λ file all. under_ok HasEnvironments open_fault.BadMachine (setting file) (setting_fits file))

  exe_good : (name : List ℕ) → IfOk (exe_loaded contents name) IsGood
  exe_good name =
      then_ok IsRunnable IsGood (module_in contents name) _ (module_runs name)
      (λ m one. linked_good (exe_setting name m.names.own) (m ∷ []) (All-cons IsRunnable m [] one (All-nil IsRunnable)) (bare_fits m.names.own one.own.short))

  run_good : (name : List ℕ) → IfOk (run_loaded contents name) IsGood
  run_good name =
      then_ok HasEnvironments IsGood (machine_in contents name) _ (machine_fits name) (λ c fits.
      then_ok (All IsRunnable) IsGood (modules_in contents c.modules []) _ (modules_run c.modules [] (All-nil IsRunnable)) (λ ms all. linked_good c ms all fits))

  pub loaded_good : (verb : Verb) (name : List ℕ) → IfOk (loaded verb contents name) IsGood
  unfolding loaded
  loaded_good Exe name = exe_good name
  loaded_good Run name = run_good name
  loaded_good Check name = run_good name
  loaded_good Dump name = run_good name
  loaded_good (Bench count) name = linked_good (bench_setting count) (bench_module ∷ []) (All-cons IsRunnable bench_module [] bench_runs (All-nil IsRunnable)) (bench_fits count)
