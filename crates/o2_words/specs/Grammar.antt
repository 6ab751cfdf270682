-- What `clap` is told of the words, and what it finds in them.
use Rattle.std.specs.Prelude.{◌≡◌, ℕ, List, [], ◌∷◌, Option, Some, codes, option_map, true}
use Rattle.clap.specs.Words.{App, Row, Rule, Text, first_of, new_rule, subcommand_rows_of, with_subcommand}
use Rattle.clap.specs.Simple.{new_shape}
use Rattle.clap.specs.declared.parser.matches.ArgMatches.{ArgMatches}
use Rattle.o2_words.specs.Words.{IsOperand, verb_text}
use Rattle.o2_words.specs.declared.words.Verb.{Verb}

-- one required text
abbrev pub operand_rule : Rule
operand_rule = record (new_rule (codes "OPERAND")) { required = true }

-- a command with that text alone, and no help or version of its own
abbrev pub operand_app : Text → App
operand_app name = record {
  top = record (new_shape name) {
    rules = operand_rule ∷ [];
    disable_help_flag = true;
    disable_version_flag = true;
  };
  subs = [];
}

-- the program, which wants one of its subcommands and has no help or version
abbrev pub bare_app : App
bare_app = record {
  top = record (new_shape (codes "os2run")) {
    no_binary_name = true;
    disable_help_flag = true;
    disable_help_subcommand = true;
    disable_version_flag = true;
    subcommand_required = true;
  };
  subs = [];
}

-- the same with a subcommand for each verb that runs what a file says
abbrev pub starting_app : App
starting_app =
    with_subcommand (with_subcommand bare_app (operand_app (codes "exe")).top) (operand_app (codes "run")).top

-- the same with a subcommand for each verb
abbrev pub program_app : App
program_app =
    with_subcommand (with_subcommand (with_subcommand starting_app (operand_app (codes "check")).top) (operand_app (codes "bench")).top) (operand_app (codes "dump")).top

-- the subcommand with its operand, where there is one
abbrev pub operand_in : Option (Text × List Row) → Option (Text × Option Text)
operand_in = option_map (λ p. (p.0, first_of (codes "OPERAND") p.1))

-- what was found is this verb with this operand
abbrev pub IsFound : ArgMatches → Verb → List ℕ → Type 0
IsFound m verb operand = operand_in (subcommand_rows_of m) ≡ Some (verb_text verb, Some operand)

-- a verb was found with an operand that it may have
abbrev pub HasFound : ArgMatches → Type 0
HasFound m = (verb : Verb) × (operand : List ℕ) × IsFound m verb operand × IsOperand verb operand
