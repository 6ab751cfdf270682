-- What is true of a machine between two turns, over a swap device.
use Rattle.std.specs.Prelude.{◌≡◌, ◌<◌, ◌≤◌, ◌+◌, ◌-◌, ◌*◌, ◌^◌, ℕ}
use Rattle.o2_conf.specs.Dispatch.{lives}
use Rattle.o2_regions.specs.Lives.{lives as is_marked}
use Rattle.o2_sched.specs.Schedule.{Schedule}
use Rattle.o2_segs.specs.Sharing.{AreHeldAtMost}
use Rattle.o2_space.specs.Stands.{GoTogether}
use Rattle.o2_space.specs.declared.space.Space.{Space}

-- over a device of so many blocks: its parts go together, those are marked live whose flag the schedule has, and each step that is
-- left may make 4,096 segments, and hold one once more
pub record GoesOver (m : Space) (s : Schedule) (device : ℕ) : Type 0 where
  pub together : GoTogether m device
  pub marked : (n : ℕ) → is_marked m.ends n ≡ lives s.flags n
  pub few : m.store.made + 4096 * s.dispatch.budget < 2 ^ 63
  pub budget : s.dispatch.budget ≤ 4000000000
  pub held : AreHeldAtMost m.regions (4294967290 - s.dispatch.budget)
