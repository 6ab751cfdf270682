-- What a dump shows: a core image of the machine, behind the end of its run or behind a stop for room or for swap.
use Rattle.std.specs.Prelude.{◌≡◌, ℕ, ◌++◌, Bool, true, false, List, Option, Result, Ok, Err}
use Rattle.o2_dump.specs.declared.reader.Core.{Core}
use Rattle.o2_dump.specs.CoreBytes.{core_bytes}
use Rattle.o2_dump.specs.CoreImage.{core_of}
use Rattle.o2_dumping.specs.Apart.{IsApart}
use Rattle.o2_dumping.specs.Named.{AreNamed}
use Rattle.o2_dumping.specs.declared.parts.Wrote.{Wrote}
use Rattle.o2_dumping.specs.declared.parts.Wrote.TheVariants as wrote
use Rattle.o2_dump_worlds.specs.StandsFor.{ImageStandsFor}
use Rattle.o2_outer.specs.Texts.{Gains, GainsSome, IsPrefix}
use Rattle.o2_dump_laws.specs.Whole.{IsWhole}
use Rattle.o2_image.specs.ImageList.{ImageList}
use Rattle.o2_store.specs.Pictures.{HasPicture, picture}
use Rattle.o2_world.specs.World.{World, Setting}
use Rattle.o2_world.specs.Run.{steps_done}
use Rattle.o2_world.specs.Text.{lines_text}
use Rattle.o2_run.specs.Pieces.{Counts}
use Rattle.o2_run.specs.Stops.{stop_line}
use Rattle.o2_run.specs.declared.fault.Fault.{Fault}
use Rattle.o2_run.specs.declared.fault.Fault.TheVariants.{Sink, Stopped}
use Rattle.o2_run.specs.declared.steps.Stop.{Stop}
use Rattle.o2_run.specs.declared.steps.Stop.TheVariants.{Input, NoRoom, SwapFull, SwapFault}
use Rattle.o2_cli.specs.Opening.{Opened}
use Rattle.o2_cli.specs.Unseen.{IsQuiet, IsOver, IsPart, IsStopped}

-- A core image stands for a world of a run: its bytes are those of a core that stands for the world, over a device of so many blocks.
-- Its segments and processes are the world's, and it has as many steps and console bytes. What is kept of a segment whose bytes stay
-- with a module or with the machine file isn't in the image: it is that of these images, and each that is named is one of them. The
-- ranges of its segments share no byte, and no block is named twice.
pub record IsImageOf (images : ImageList) (device : ℕ) (s : Setting) (w : World) (image : List ℕ) : Type 0 where
  pub core : Core
  pub stands : ImageStandsFor (picture images) s device (steps_done s w) core w
  pub bytes : image ≡ core_bytes core
  pub apart : IsApart core
  pub named : AreNamed (HasPicture images) core.segments

-- a whole one: its fields fit, it keeps the rules of the format, and the reader gives that core
pub record IsWholeImage (images : ImageList) (device : ℕ) (s : Setting) (w : World) (image : List ℕ) : Type 0 where
  pub image_of : IsImageOf images device s w image
  pub whole : IsWhole image_of.core
  pub read : core_of image ≡ Ok image_of.core

-- the console gains such an image, or a front of one
abbrev pub GainsImage : ImageList → (device : ℕ) → Setting → World → (console_old console_new : Option (List ℕ)) → Type 0
GainsImage images device s w c d = GainsSome c d (IsWholeImage images device s w)

abbrev pub GainsFront : ImageList → (device : ℕ) → Setting → World → (console_old console_new : Option (List ℕ)) → Type 0
GainsFront images device s w c d = GainsSome c d (λ front. (image : List ℕ) × IsImageOf images device s w image × IsPrefix front image)

-- by what its writing came to
abbrev pub GainsByWrote : ImageList → (device : ℕ) → Setting → World → (console_old console_new : Option (List ℕ)) → Wrote → Type 0
GainsByWrote images device s w c d wrote.Done = GainsImage images device s w c d
GainsByWrote images device s w c d wrote.SinkFault = GainsFront images device s w c d
GainsByWrote images device s w c d wrote.SwapFault = GainsFront images device s w c d

-- the stop line is put behind the lines of this world
abbrev pub HasStopLine : Stop → World → (report_old report_new : Option (List ℕ)) → Type 0
HasStopLine why w r q = Gains r q (lines_text w.lines ++ stop_line why)

-- the run is over, and the image is put
abbrev pub HasDumpRun : (blocks : ℕ) → Opened → (left console_old console_new report_old report_new : Option (List ℕ)) → Counts → Type 0
HasDumpRun blocks o j c d r q n = IsOver o j r q n (λ w. GainsImage o.images blocks o.setting w c d)

-- behind a stop line comes the image; where the put of that line failed, by the word `fault`, nothing comes
pub data IsDumped (images : ImageList) (blocks : ℕ) (s : Setting) (why : Stop) (console_old console_new report_old report_new : Option (List ℕ)) (fault : Type 0) (puts : Counts)
    (w : World) : Type 0 where
  Told : HasStopLine why w report_old report_new → GainsImage images blocks s w console_old console_new
      → IsDumped images blocks s why console_old console_new report_old report_new fault puts w
  Untold : fault → IsQuiet console_old console_new puts → IsDumped images blocks s why console_old console_new report_old report_new fault puts w

-- the stops behind which an image is put
abbrev pub IsForRoom : Stop → Type 0
IsForRoom Input = ⊥
IsForRoom NoRoom = Unit {0}
IsForRoom SwapFull = Unit {0}
IsForRoom SwapFault = ⊥

-- the image isn't finished, behind the end of the run or behind the line of its stop: the report has no further line
pub data IsUnfinished (blocks : ℕ) (o : Opened) (left console_old console_new report_old report_new : Option (List ℕ)) (fault : Type 0)
    (puts : Counts) : Type 0 where
  AtEnd : IsOver o left report_old report_new puts (λ w. GainsFront o.images blocks o.setting w console_old console_new)
      → IsUnfinished blocks o left console_old console_new report_old report_new fault puts
  AtStop : (why : Stop) → IsForRoom why
      → IsStopped blocks o why left report_old report_new fault puts
      (λ w. HasStopLine why w report_old report_new × GainsFront o.images blocks o.setting w console_old console_new)
      → IsUnfinished blocks o left console_old console_new report_old report_new fault puts

-- a sink failed: the report in the run, or the console at the image
pub data HasDumpPart (blocks : ℕ) (o : Opened) (left console_old console_new report_old report_new : Option (List ℕ)) (fault : Type 0)
    (puts : Counts) : Type 0 where
  PartInRun : IsPart o left report_old report_new puts → IsQuiet console_old console_new puts
      → HasDumpPart blocks o left console_old console_new report_old report_new fault puts
  PartAtImage : IsUnfinished blocks o left console_old console_new report_old report_new fault puts
      → HasDumpPart blocks o left console_old console_new report_old report_new fault puts

-- the device failed: in the run, or at the image
pub data HasDumpFault (blocks : ℕ) (o : Opened) (left console_old console_new report_old report_new : Option (List ℕ)) (fault : Type 0)
    (puts : Counts) : Type 0 where
  FaultInRun : IsStopped blocks o SwapFault left report_old report_new fault puts (λ w. IsQuiet console_old console_new puts)
      → HasDumpFault blocks o left console_old console_new report_old report_new fault puts
  FaultAtImage : IsUnfinished blocks o left console_old console_new report_old report_new fault puts
      → HasDumpFault blocks o left console_old console_new report_old report_new fault puts

-- the run stops before a step
abbrev pub HasDumpStop : (blocks : ℕ) → Opened → Stop → (left console_old console_new report_old report_new : Option (List ℕ)) → (fault : Type 0)
    → Counts → Type 0
HasDumpStop blocks o Input j c d r q e n = IsStopped blocks o Input j r q e n (λ w. IsQuiet c d n)
HasDumpStop blocks o NoRoom j c d r q e n = IsStopped blocks o NoRoom j r q e n (IsDumped o.images blocks o.setting NoRoom c d r q e n)
HasDumpStop blocks o SwapFull j c d r q e n = IsStopped blocks o SwapFull j r q e n (IsDumped o.images blocks o.setting SwapFull c d r q e n)
HasDumpStop blocks o SwapFault j c d r q e n = HasDumpFault blocks o j c d r q e n

-- whether an image is put behind a run, by the fate of its stop line
abbrev pub is_dumped : Result (Unit {0}) Fault → (put : Bool) → Bool
is_dumped (Ok x) put = true
is_dumped (Err (Stopped Input)) put = false
is_dumped (Err (Stopped NoRoom)) put = put
is_dumped (Err (Stopped SwapFull)) put = put
is_dumped (Err (Stopped SwapFault)) put = false
is_dumped (Err Sink) put = false
