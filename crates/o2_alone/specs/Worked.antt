-- Rows of a run of two processes that write `hello`, in turns of three steps, and of the run of the second alone.
use Rattle.std.specs.Prelude.{ℕ, List, [], ◌∷◌, flat_map, map}
use Rattle.o2_world.specs.World.{World, Setting}
use Rattle.o2_world.specs.Starts.{opening_of}
use Rattle.o2_world.specs.Hello.{hello_process, hello_setting, opened}
use Rattle.o2_alone.specs.Events.{Event}
use Rattle.o2_alone.specs.Alone.{opening_alone}

abbrev pub in_turns : Setting
in_turns = record (hello_setting 1000) { quantum = 3 }

abbrev pub two_hellos : World
two_hellos = opened (opening_of in_turns [] [] [] (hello_process ∷ hello_process ∷ []))

abbrev pub second_alone : World
second_alone = opened (opening_alone in_turns [] [] 2 hello_process)

abbrev pub pieces : List Event → List ℕ
pieces es = flat_map (λ (x : Event). x.piece) es

-- where each step leaves IP
abbrev pub pointers : List Event → List ℕ
pointers es = map (λ (x : Event). x.cpu.ip) es

abbrev pub hello_pointers : List ℕ
hello_pointers = 2 ∷ 3 ∷ 6 ∷ 8 ∷ 9 ∷ 11 ∷ 16 ∷ 18 ∷ 20 ∷ 20 ∷ []
