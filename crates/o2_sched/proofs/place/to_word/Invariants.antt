use Rattle.std.proofs.Common.{◌≡◌, ◌≤◌, ◌-◌, drop, length}
use Rattle.o2_conf.specs.Dispatch.{words_before, behind_word}
use Rattle.o2_sched.proofs.place.to_word.Given as goal

abbrev pub invariant-loop-count : goal.invariant-loop-count
invariant-loop-count l = record {
  within : l.count ≤ length l.words;
  before : words_before l.flags (drop l.count l.words) ≡ words_before l.flags l.words;
  behind : behind_word l.flags (drop l.count l.words) ≡ behind_word l.flags l.words;
}

abbrev pub decreases-loop-count : goal.decreases-loop-count
decreases-loop-count l = length l.words - l.count
