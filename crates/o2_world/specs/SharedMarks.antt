-- Which names of an opening are shared, as the definitions compute it.
use Rattle.std.specs.Prelude.{ℕ, Bool, true, false, List, [], ◌∷◌, map, replicate, Option, Some, None, option_map}
use Rattle.o2_desc.specs.Bits.{read_only_data, readable_code, writable_data}
use Rattle.o2_world.specs.Map.{get}
use Rattle.o2_world.specs.World.{World, Segment}
use Rattle.o2_world.specs.Starts.{Loaded, Start, opening_of}
use Rattle.o2_world.specs.Hello.{hello, hello_setting, hello_process, opened}

-- code, data of each process, data that is one for all, and data that is only read
abbrev pub sharing : Loaded
sharing = record hello {
  segments =
      record { index = 1; rights = readable_code; common = false; image = replicate 16 0 }
      ∷ record { index = 2; rights = writable_data; common = false; image = replicate 16 0 }
      ∷ record { index = 3; rights = writable_data; common = true; image = replicate 16 0 }
      ∷ record { index = 4; rights = read_only_data; common = false; image = replicate 16 0 }
      ∷ [];
}

abbrev pub sharing_process : Start
sharing_process = record hello_process { program = sharing }

abbrev pub is_shared : Segment → Bool
is_shared s = s.shared

abbrev pub sharing_world : World
sharing_world = opened (opening_of (hello_setting 1) [] [] [] (sharing_process ∷ sharing_process ∷ []))

-- the marks of the names 0 to 7
abbrev pub shared_marks : List (Option Bool)
shared_marks = map (λ (n : ℕ). option_map is_shared (get sharing_world.names n)) (0 ∷ 1 ∷ 2 ∷ 3 ∷ 4 ∷ 5 ∷ 6 ∷ 7 ∷ [])

-- code, own data, common data, read-only data and the environment of the first process; own data and environment of the second
abbrev pub some_marks : List (Option Bool)
some_marks = Some false ∷ Some false ∷ Some true ∷ Some true ∷ Some false ∷ Some false ∷ Some false ∷ None ∷ []
