-- What a refusal that is told says of a reading, and of the files' faults.
use Rattle.std.proofs.Common.{◌≡◌, ◌≤◌, ℕ, ◌∙◌, sym, ap, arith, subst}
use Rattle.std.specs.Prelude.{Result, Ok, Err, IfErr}
use Rattle.o2_outer.specs.Texts.{Rose}
use Rattle.o2_open.specs.declared.fault.OpenFault.{OpenFault}
use Rattle.o2_open.specs.declared.fault.OpenFault.TheVariants as open_fault
use Rattle.o2_open.specs.Loads.{Fails, Tells, Refuses}

-- the reading is refused so, and the refusal is told
pub told : {Y : Type 0} (s wanted : OpenFault) (read : Result Y OpenFault) → Tells s wanted → read ≡ Err wanted → Fails s read
told open_fault.NoMemory wanted read t e = tt
told open_fault.FileFault wanted read t e = tt
told (open_fault.NoFile name) wanted read t e = e ∙ ap Err (sym t)
told (open_fault.BadMachine fault) wanted read t e = e ∙ ap Err (sym t)
told (open_fault.BadModule name fault) wanted read t e = e ∙ ap Err (sym t)

-- a refusal that is told, by what was wanted
pub told_refuses : (before now : ℕ) (s wanted : OpenFault) → Tells s wanted → Refuses before now wanted → Refuses before now s
told_refuses before now open_fault.NoMemory wanted t r = tt
told_refuses before now open_fault.FileFault wanted t r = subst (λ (w : OpenFault). Refuses before now w) (sym t) r
told_refuses before now (open_fault.NoFile name) wanted t r = tt
told_refuses before now (open_fault.BadMachine fault) wanted t r = tt
told_refuses before now (open_fault.BadModule name fault) wanted t r = subst (λ (w : OpenFault). Refuses before now w) (sym t) r

rose_since : (before mid now : ℕ) → before ≤ mid → Rose mid now → Rose before now
rose_since before mid now later rose = grind arith

-- a refusal since a later count is one since an earlier
pub since : (before mid now : ℕ) (s : OpenFault) → before ≤ mid → Refuses mid now s → Refuses before now s
since before mid now open_fault.NoMemory later r = tt
since before mid now open_fault.FileFault later r = rose_since before mid now later r
since before mid now (open_fault.NoFile name) later r = tt
since before mid now (open_fault.BadMachine fault) later r = tt
since before mid now (open_fault.BadModule name fault) later r = r

pub since_err : {X : Type 0} (before mid now : ℕ) (r : Result X OpenFault) → before ≤ mid → IfErr r (Refuses mid now) → IfErr r (Refuses before now)
since_err before mid now (Ok x) later r = tt
since_err before mid now (Err s) later r = since before mid now s later r
