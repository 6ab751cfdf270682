-- A program that writes `hello` and exits, as the definitions run it.
use Rattle.std.specs.Prelude.{ℕ, List, [], ◌∷◌, ◌++◌, codes, replicate, flat_map, Result, Ok, Err, false}
use Rattle.o2_desc.specs.Bits.{readable_code, writable_data}
use Rattle.o2_world.specs.World.{World, Setting}
use Rattle.o2_base.specs.declared.faults.ModuleFault.{ModuleFault}
use Rattle.o2_conf.specs.Environments.{environment}
use Rattle.o2_world.specs.Starts.{Loaded, Start, opening_of, world_of, nothing_built}

-- push 1; push ds; push 0; push 5; push ds; push 6; call far DosWrite; push 1; push 0; call far DosExit
abbrev pub hello_code : List ℕ
hello_code =
    0x6A ∷ 0x01 ∷ 0x1E ∷ 0x68 ∷ 0x00 ∷ 0x00 ∷ 0x6A ∷ 0x05 ∷ 0x1E ∷ 0x6A ∷ 0x06
    ∷ 0x9A ∷ 0x00 ∷ 0x00 ∷ 0xA3 ∷ 0x00
    ∷ 0x6A ∷ 0x01 ∷ 0x6A ∷ 0x00
    ∷ 0x9A ∷ 0x00 ∷ 0x00 ∷ 0x8B ∷ 0x00
    ∷ []

abbrev pub hello : Loaded
hello = record {
  place = 1;
  name = codes "HELLO";
  library = false;
  segments =
      record { index = 1; rights = readable_code; common = false; image = hello_code }
      ∷ record { index = 2; rights = writable_data; common = false; image = codes "hello" ++ replicate 11 0 }
      ∷ [];
  auto_seg = 2;
  heap = 0;
  stack = 512;
  cs = 1;
  ip = 0;
  ss = 2;
  sp = 0;
}

-- without environment strings and arguments
abbrev pub hello_process : Start
hello_process = record { program = hello; libraries = []; environment = environment [] (codes "HELLO") []; command = 1 }

abbrev pub hello_setting : ℕ → Setting
hello_setting budget = record { quantum = 1000; memory = 1048576; swap = 2048; segments = 1024; avail = 524288; budget = budget }

abbrev pub hello_opening : ℕ → Result World (ℕ × ModuleFault)
hello_opening budget = opening_of (hello_setting budget) [] [] [] (hello_process ∷ [])

abbrev pub opened : Result World (ℕ × ModuleFault) → World
opened (Ok w) = w
opened (Err fault) = world_of [] [] 0 [] nothing_built

abbrev pub hello_world : ℕ → World
hello_world budget = opened (hello_opening budget)

abbrev pub text_of : List (List ℕ) → List ℕ
text_of lines = flat_map (λ (l : List ℕ). l ++ 10 ∷ []) lines

abbrev pub hello_start : List (List ℕ)
hello_start =
    codes "1 start HELLO"
    ∷ codes "1 hold 000F by load"
    ∷ codes "1 hold 0017 by load"
    ∷ codes "1 hold 001F by load"
    ∷ []

abbrev pub hello_write : List ℕ
hello_write = codes "1 call DosWrite 0001 0017:0000 0005 0017:0006 = 0 0005"

abbrev pub hello_report : List ℕ
hello_report =
    text_of (hello_start ++ hello_write
    ∷ codes "1 call DosExit 0001 0000"
    ∷ codes "1 end exit 0"
    ∷ codes "all ended"
    ∷ [])
