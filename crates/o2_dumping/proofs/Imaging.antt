-- An image, part by part.
use Rattle.std.proofs.Common.{◌≡◌, ℕ, ◌+◌, List, [], ◌∷◌, ◌++◌, length, refl, ap, ◌∙◌, append_assoc, suc}
use Rattle.std.specs.Prelude.{codes, flat_map}
use Rattle.std.proofs.lemmas.List.{length-map}
use Rattle.o2_regions.specs.Maps.{Maps}
use Rattle.o2_store.specs.Shelf.{Shelf}
use Rattle.o2_dump.specs.CoreBytes.{core_bytes, head_bytes, long, process_bytes, quad, segment_bytes}
use Rattle.o2_dumping.specs.Told.{Row, core_told, numbers, processes_from, segment_told, segments_told}

pub many_processes : (s : Shelf) (m : Maps) (pid : ℕ) (ps : List Row) → length (processes_from s m pid ps) ≡ length ps
many_processes s m pid [] = refl
many_processes s m pid (p ∷ ps) = ap (λ (n : ℕ). suc n) (many_processes s m (pid + 1) ps)

abbrev pub head_of : Shelf → List Row → (blocks steps console : ℕ) → List ℕ
head_of s ps blocks steps console =
    codes "OS2CORE2" ++ long (length s.memory) ++ long blocks ++ long (length (numbers s)) ++ long (length ps) ++ quad steps ++ quad console

-- what follows the segments
abbrev pub tail_of : Shelf → Maps → List Row → List ℕ
tail_of s m ps = s.memory ++ (flat_map process_bytes (processes_from s m 1 ps) ++ codes "END!")

regroup : (a b c d e : List ℕ) → a ++ b ++ c ++ d ++ e ≡ a ++ (b ++ (c ++ (d ++ e)))
regroup a b c d e = simp append_assoc

pub image_parts : (s : Shelf) (m : Maps) (ps : List Row) (block : ℕ → List ℕ) (blocks steps console : ℕ)
    → core_bytes (core_told s m ps block blocks steps console)
    ≡ head_of s ps blocks steps console ++ (flat_map segment_bytes (segments_told s block) ++ tail_of s m ps)
image_parts s m ps block blocks steps console =
    regroup (head_bytes (core_told s m ps block blocks steps console)) (flat_map segment_bytes (segments_told s block)) s.memory
    (flat_map process_bytes (processes_from s m 1 ps)) (codes "END!")
    ∙ (ap (λ (n : ℕ). (codes "OS2CORE2" ++ long (length s.memory) ++ long blocks ++ long n ++ long (length (processes_from s m 1 ps)) ++ quad steps ++ quad console)
    ++ (flat_map segment_bytes (segments_told s block) ++ tail_of s m ps)) (length-map (numbers s) (segment_told s block))
    ∙ ap (λ (n : ℕ). (codes "OS2CORE2" ++ long (length s.memory) ++ long blocks ++ long (length (numbers s)) ++ long n ++ quad steps ++ quad console)
    ++ (flat_map segment_bytes (segments_told s block) ++ tail_of s m ps)) (many_processes s m 1 ps))
