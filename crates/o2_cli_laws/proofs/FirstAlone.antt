-- The first process's run alone is the run of a machine file that has this process alone.
use Rattle.std.proofs.Common.{◌≡◌, refl, sym, ◌∙◌, ap, subst, ℕ, List, [], ◌∷◌, arith}
use Rattle.std.specs.Prelude.{Result, Ok, Err, slice_get}
use Rattle.o2_words.specs.declared.words.Verb.TheVariants.{Run}
use Rattle.o2_conf.specs.declared.conf.Conf.{Conf}
use Rattle.o2_conf.specs.declared.process.Process.{Process}
use Rattle.o2_image.specs.Parts.{Parts}
use Rattle.o2_dynlink.specs.declared.fault.LinkFault.{LinkFault}
use Rattle.o2_dynlink.specs.Linking.{linked_of}
use Rattle.o2_dynlink.specs.Outcome.{LinkedParts}
use Rattle.o2_world.specs.World.{Setting, World}
use Rattle.o2_world.specs.Starts.{Start, all_started, opening_of}
use Rattle.o2_load.specs.Loads.{library_ranges, start_of, starts_of}
use Rattle.o2_machine.specs.Begins.{opening, setting_of}
use Rattle.o2_alone.specs.Alone.{opening_alone}
use Rattle.o2_isolation.specs.Strangers.{IsStranger}
use Rattle.o2_isolation.proofs.Linked.{linked_strangers}
use Rattle.o2_open.specs.declared.fault.OpenFault.{OpenFault}
use Rattle.o2_open.specs.declared.session.Session.{Session}
use Rattle.o2_open.specs.Loads.{◌>>=◌, Contents, link_refusal, linked_in, loaded, machine_in, modules_in, run_loaded, under}
use Rattle.o2_cli_laws.specs.Files.{HoldBytes}
use Rattle.o2_cli_laws.specs.Commands.{RunsAsOnly}
use Rattle.o2_cli_laws.specs.FirstOnly.{first_only}
use Rattle.o2_cli_laws.proofs.Commands.{good_at}
use Rattle.o2_cli_laws.proofs.OnlyLinked.{LinksFirst, links_first}
use Rattle.o2_cli_laws.proofs.Sessions.{IsGood}

then_is : {X Y : Type 0} (r : Result X OpenFault) (f : X → Result Y OpenFault) (x : X) (y : Y) → r ≡ Ok x → f x ≡ Ok y → (r >>= f) ≡ Ok y
then_is {X} {Y} r f x y is gives = ap (λ (q : Result X OpenFault). q >>= f) is ∙ gives

-- What a machine file loads as.
record IsLoaded (contents : Contents) (c : Conf) (s : Session) : Type 0 where
  modules : List Parts
  read : modules_in contents c.modules [] ≡ Ok modules
  linked : linked_of modules c ≡ Ok s.linked
  conf : s.conf ≡ c

has_loaded : (contents : Contents) (name : List ℕ) (c : Conf) (s : Session) → machine_in contents name ≡ Ok c → run_loaded contents name ≡ Ok s → IsLoaded contents c s
has_loaded contents name c s machine e =
    by_modules (modules_in contents c.modules []) refl (sym (ap (λ (r : Result Conf OpenFault). r >>= (λ (c : Conf). modules_in contents c.modules [] >>= linked_in c)) machine) ∙ e)
  where
    session_in : Result Session OpenFault → Session
    session_in (Ok x) = x
    session_in (Err fault) = s

    by_link : (ms : List Parts) → modules_in contents c.modules [] ≡ Ok ms → (r : Result LinkedParts LinkFault) → linked_of ms c ≡ r
        → under (link_refusal c) r >>= (λ (l : LinkedParts). Ok (record { conf = c; linked = l })) ≡ Ok s → IsLoaded contents c s
    by_link ms read (Err fault) is f = absurd (cc)
    by_link ms read (Ok l) is f =
        let same = ap session_in f in
        record { modules = ms; read = read; linked = is ∙ ap (λ (x : Session). Ok x.linked) same; conf = sym (ap (λ (x : Session). x.conf) same) }

    by_modules : (r : Result (List Parts) OpenFault) → modules_in contents c.modules [] ≡ r → r >>= linked_in c ≡ Ok s → IsLoaded contents c s
    by_modules (Err fault) is f = absurd (cc)
    by_modules (Ok ms) is f = by_link ms is (linked_of ms c) refl f

-- a run of one process is its run alone
one_alone : (s : Setting) (reserved : List (ℕ × ℕ)) (input : List ℕ) (start : Start) → opening_of s reserved [] input (start ∷ []) ≡ opening_alone s reserved input 1 start
unfolding all_started
one_alone s reserved input start = refl

module _ (contents : Contents) (other input : List ℕ) (w : World) (s : Session) (p : Process) (ps : List Process) (modules : List Parts)
    (read : modules_in contents s.conf.modules [] ≡ Ok modules) (linked : linked_of modules s.conf ≡ Ok s.linked) (process : s.conf.process ≡ p ∷ ps)
    (only_machine : machine_in contents other ≡ Ok (first_only s.conf p)) (good : IsGood s) (opens : opening s.linked s.conf input ≡ Ok w) where
  abbrev first : LinksFirst modules s.conf p s.linked
  first = links_first modules s.conf p ps s.linked process linked

  abbrev only : Session
  only = record { conf = first_only s.conf p; linked = first.only }

  only_loaded : run_loaded contents other ≡ Ok only
  only_loaded =
      then_is (machine_in contents other) (λ (c : Conf). modules_in contents c.modules [] >>= linked_in c) (first_only s.conf p) only only_machine
      (then_is (modules_in contents s.conf.modules []) (linked_in (first_only s.conf p)) modules only read
      (ap (λ (r : Result LinkedParts LinkFault). under (link_refusal (first_only s.conf p)) r >>= (λ (l : LinkedParts). Ok (record { conf = first_only s.conf p; linked = l }))) first.links))

  abbrev stranger : IsStranger (setting_of s.conf) (library_ranges s.linked) input 1 (start_of s.linked 1 p) w
  stranger =
      linked_strangers (setting_of s.conf) s.conf.script input good.linked.0 s.conf s.linked w good.linked.1.0 good.fits good.linked.1.1 opens 1 (start_of s.linked 1 p) (omega arith)
      (ap (λ (qs : List Process). slice_get (starts_of s.linked 1 qs) 0) process)

  only_opening : opening first.only (first_only s.conf p) input ≡ Ok stranger.alone
  only_opening =
      ap (λ (rs : List (ℕ × ℕ)). opening_of (setting_of s.conf) rs [] input (start_of first.only 1 p ∷ [])) first.ranges
      ∙ (ap (λ (x : Start). opening_of (setting_of s.conf) (library_ranges s.linked) [] input (x ∷ [])) first.start
      ∙ (one_alone (setting_of s.conf) (library_ranges s.linked) input (start_of s.linked 1 p) ∙ stranger.begins))

  pub runs_as_only : RunsAsOnly contents other input s w
  unfolding loaded
  runs_as_only = record {
    only = only;
    opens = only_loaded;
    setting = refl;
    alone = stranger.alone;
    starts = only_opening;
    isolated = stranger.isolated;
  }

pub first_alone : (contents : Contents) (name other input : List ℕ) (c : Conf) (p : Process) (ps : List Process) (s : Session) (w : World) → HoldBytes contents
    → machine_in contents name ≡ Ok c → c.process ≡ p ∷ ps → machine_in contents other ≡ Ok (first_only c p)
    → loaded Run contents name ≡ Ok s → opening s.linked s.conf input ≡ Ok w → RunsAsOnly contents other input s w
unfolding loaded
first_alone contents name other input c p ps s w bytes machine process only_machine e opens =
    let l = has_loaded contents name c s machine e in
    let same : c ≡ s.conf = sym l.conf in
    runs_as_only contents other input w s p ps l.modules (subst (λ (x : Conf). modules_in contents x.modules [] ≡ Ok l.modules) same l.read)
    (subst (λ (x : Conf). linked_of l.modules x ≡ Ok s.linked) same l.linked)
    (ap (λ (x : Conf). x.process) l.conf ∙ process)
    (subst (λ (x : Conf). machine_in contents other ≡ Ok (first_only x p)) same only_machine)
    (good_at contents Run name s bytes e) opens
