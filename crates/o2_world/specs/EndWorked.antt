-- What the end of a process leaves of names, reserved indexes and texts, as the definitions compute it behind the opening of two
-- processes that run `hello`.
use Rattle.std.specs.Prelude.{ℕ, true, false, List, [], ◌∷◌, codes, map}
use Rattle.o2_desc.specs.Bits.{writable_data}
use Rattle.o2_world.specs.declared.types.State.TheVariants.{Exited}
use Rattle.o2_world.specs.World.{World, Segment, Held, Reserve, ByCall}
use Rattle.o2_world.specs.Changes.{Change, Makes, Holds, Finishes, Reserves, Names, with_changes, with_all}
use Rattle.o2_world.specs.SegmentsWorked.{two_processes}

abbrev pub some_segment : Segment
some_segment = record { bytes = 0 ∷ []; clean = false; code = false; flags = 0; lock = 0; shared = true; discarded = false }

-- a hold of a name, and one in a run of so many reserved indexes
abbrev pub some_hold : (name first reserved : ℕ) → Held
some_hold name first reserved = record { name = name; rights = writable_data; holds = 1; cause = ByCall; first = first; reserved = reserved }

abbrev pub some_run : (region first : ℕ) → Reserve
some_run region first = record { region = region; first = first; count = 2; stays = false }

-- The names 5 to 10: one that the first process holds and one that both hold, each with a text; a run of its own of either; and
-- a shared run that the first holds and one that both hold, beside a library's run, which nobody holds.
abbrev pub shared_out : List Change
shared_out =
    Makes some_segment ∷ Holds 1 4096 (some_hold 5 0 0)
    ∷ Makes some_segment ∷ Holds 1 4097 (some_hold 6 0 0) ∷ Holds 2 4097 (some_hold 6 0 0)
    ∷ Makes some_segment ∷ Holds 1 8 (some_hold 7 8 2)
    ∷ Makes some_segment ∷ Holds 2 8 (some_hold 8 8 2)
    ∷ Makes some_segment ∷ Holds 1 4100 (some_hold 9 4100 2)
    ∷ Makes some_segment ∷ Holds 1 4102 (some_hold 10 4102 2) ∷ Holds 2 4102 (some_hold 10 4102 2)
    ∷ Names (codes "\\SHAREMEM\\ONE") 5 ∷ Names (codes "\\SHAREMEM\\BOTH") 6
    ∷ Reserves (record { region = 0; first = 4104; count = 2; stays = true })
    ∷ Reserves (some_run 0 4102) ∷ Reserves (some_run 0 4100)
    ∷ Reserves (some_run 2 8) ∷ Reserves (some_run 1 8)
    ∷ []

abbrev pub before_ends : World
before_ends = with_changes two_processes shared_out

abbrev pub end_of : ℕ → World → World
end_of process w = with_all w (Finishes process (Exited 0) ∷ [])

abbrev pub one_ended : World
one_ended = end_of 1 before_ends

abbrev pub both_ended : World
both_ended = end_of 2 one_ended

-- the names that live, the names of the texts, and the runs by region and first index
abbrev pub names_in : World → List ℕ
names_in w = map (λ (e : ℕ × Segment). e.0) w.names

abbrev pub texts_in : World → List ℕ
texts_in w = map (λ (t : List ℕ × ℕ). t.1) w.texts

abbrev pub runs_in : World → List (ℕ × ℕ)
runs_in w = map (λ (r : Reserve). (r.region, r.first)) w.reserved
