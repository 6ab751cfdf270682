-- Each process of a machine file has an environment that fits a segment.
use Rattle.std.proofs.Common.{◌≡◌, ℕ, ◌≤◌, Bool, true, false, List, [], ◌∷◌, All, length, replicate, refl, arith}
use Rattle.std.specs.Prelude.{IfOk, Result, Ok, Err, codes, nat_le}
use Rattle.std.proofs.lemmas.Bool.{leb-true}
use Rattle.std.proofs.lemmas.List.Elements.{All-cons, All-nil, All-push, All-replicate}
use Rattle.toml.specs.Data.{Data, Items, Members, as_array, as_table, item, no_items}
use Rattle.o2_base.specs.declared.faults.Key.TheVariants as key
use Rattle.o2_base.specs.declared.faults.MachineFault.TheVariants.{BadValue, Limit, Missing}
use Rattle.o2_conf.specs.declared.conf.Conf.{Conf}
use Rattle.o2_conf.specs.declared.process.Process.{Process}
use Rattle.o2_conf.specs.Alone.{bare_process}
use Rattle.o2_conf.specs.Limits.{HasEnvironment}
use Rattle.o2_conf.specs.Ordinals.{ordinals_or}
use Rattle.o2_conf.specs.Processes.{arguments_or, environment_or, environment_size, module_at, process_at, process_step, processes_at, table_step}
use Rattle.o2_conf.specs.Script.{script_or}
use Rattle.o2_conf.specs.Setting.{modules_at, numbers_at, setting, shim_or}
use Rattle.o2_conf.specs.Steps.{◌>>=◌, each, some_or, within}
use Rattle.o2_conf.specs.Values.{document_of, is_from, value_at}

then_ok : {A B F : Type 0} (P : A → Type 0) (Q : B → Type 0) (r : Result A F) (k : A → Result B F) → IfOk r P → ((x : A) → P x → IfOk (k x) Q) → IfOk (r >>= k) Q
then_ok P Q (Ok x) k h next = next x h
then_ok P Q (Err f) k h next = tt

-- whatever comes first
any_ok : {A B F : Type 0} (Q : B → Type 0) (r : Result A F) (k : A → Result B F) → ((x : A) → IfOk (k x) Q) → IfOk (r >>= k) Q
any_ok Q (Ok x) k next = next x
any_ok Q (Err f) k next = tt

within_ok : {X F : Type 0} (holds : Bool) (x : X) (fault : F) → IfOk (within holds x fault) (λ (y : X). holds ≡ true)
within_ok true x fault = refl
within_ok false x fault = tt

each_ok : {S F : Type 0} (P : S → Type 0) (f : Data → S → Result S F) → ((d : Data) (s : S) → P s → IfOk (f d s) P) → (ds : Items) (s : S) → P s → IfOk (each f ds s) P
unfolding each
each_ok P f one no_items s h = h
each_ok P f one (item d ds) s h = then_ok P P (f d s) (each f ds) (one d s h) (λ next g. each_ok P f one ds next g)

process_fits : (ms : Members) → IfOk (process_at ms) HasEnvironment
unfolding process_at
process_fits ms =
    any_ok HasEnvironment (module_at ms) _ (λ name.
    any_ok HasEnvironment (arguments_or (value_at ms key.ProcessArguments)) _ (λ arguments.
    any_ok HasEnvironment (environment_or (value_at ms key.ProcessEnvironment)) _ (λ strings.
    then_ok (λ (x : List (List ℕ)). nat_le (environment_size name arguments strings) 65536 ≡ true) HasEnvironment (within (nat_le (environment_size name arguments strings) 65536) strings (Limit key.ProcessEnvironment)) _
    (within_ok (nat_le (environment_size name arguments strings) 65536) strings (Limit key.ProcessEnvironment))
    (λ x fits. leb-true (environment_size name arguments strings) 65536 fits))))

step_fits : (d : Data) (found : List Process) → All HasEnvironment found → IfOk (process_step d found) (All HasEnvironment)
step_fits d found all =
    any_ok (All HasEnvironment) (some_or (as_table d) (BadValue key.Process)) _ (λ ms.
    then_ok HasEnvironment (All HasEnvironment) (process_at ms) _ (process_fits ms) (λ p fits. All-push HasEnvironment found p all fits))

all_fit : (ms : Members) → IfOk (processes_at ms) (All HasEnvironment)
unfolding processes_at
all_fit ms =
    any_ok (All HasEnvironment) (some_or (value_at ms key.Process) (Missing key.Process)) _ (λ d.
    any_ok (All HasEnvironment) (some_or (as_array d) (BadValue key.Process)) _ (λ items.
    any_ok (All HasEnvironment) (each table_step items 0) _ (λ count.
    any_ok (All HasEnvironment) (within (is_from 1 64 count) count (Limit key.Process)) _ (λ x.
    each_ok (All HasEnvironment) process_step step_fits items [] (All-nil HasEnvironment)))))

abbrev pub HasEnvironments : Conf → Type 0
HasEnvironments c = All HasEnvironment c.process

pub setting_fits : (file : List ℕ) → IfOk (setting file) HasEnvironments
unfolding setting
setting_fits file =
    any_ok HasEnvironments (within (nat_le (length file) 1048576) file (Limit key.File)) _ (λ bytes.
    any_ok HasEnvironments (document_of bytes) _ (λ ms.
    any_ok HasEnvironments (numbers_at ms) _ (λ n.
    any_ok HasEnvironments (modules_at ms) _ (λ modules.
    then_ok (All HasEnvironment) HasEnvironments (processes_at ms) _ (all_fit ms) (λ process fits.
    any_ok HasEnvironments (ordinals_or (value_at ms key.Ordinals)) _ (λ ordinals.
    any_ok HasEnvironments (script_or (value_at ms key.Script)) _ (λ script.
    any_ok HasEnvironments (shim_or (value_at ms key.Shim)) _ (λ shim. fits))))))))

-- the setting of a program that is run alone, and that of a bench

pub bare_fits : (name : List ℕ) → length name ≤ 255 → All HasEnvironment (bare_process name ∷ [])
bare_fits name short = All-cons HasEnvironment (bare_process name) [] (omega (arith, short)) (All-nil HasEnvironment)

pub bench_fits : (count : ℕ) → All HasEnvironment (replicate count (bare_process (codes "BENCH")))
bench_fits count = let fits : 9 ≤ 65536 = omega arith in All-replicate HasEnvironment count (bare_process (codes "BENCH")) fits
