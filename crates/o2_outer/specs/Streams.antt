-- What a sink over a writer, a source over a reader, the files of a folder and a swap device over a file show.
use Rattle.std.specs.Prelude.{◌≡◌, ℕ, Bool, List, ◌++◌, Option, take, ◌&&◌, nat_eq}
use Rattle.o2_outer.specs.declared.streams.StreamSink.{StreamSink}
use Rattle.o2_outer.specs.declared.stdin.StreamSource.{StreamSource}
use Rattle.o2_outer.specs.declared.folder.FolderFiles.{FolderFiles}
use Rattle.o2_outer.specs.declared.sink.Put.{Put}
use Rattle.o2_outer.specs.declared.sink.Put.TheVariants as put
use Rattle.o2_outer.specs.Texts.{IsPrefix, Gains}
use Rattle.o2_outer.specs.Inputs.{Past}
use Rattle.o2_outer.specs.Fetches.{Fetched}
use Rattle.o2_outer.specs.Accesses.{Accessed}
use Rattle.o2_outer.specs.Asked.{asked_for}
use Rattle.o2_outer.specs.declared.file_swap.FileSwap.{FileSwap}
use Rattle.o2_outer.specs.declared.window.Window.{Window}

abbrev pub sink_stream : {W : Type 0} → StreamSink W → W
sink_stream s = s.stream

-- the bytes that its writes took, whatever the stream tells
abbrev pub stream_taken : {W : Type 0} → StreamSink W → List ℕ
stream_taken s = s.log.bytes

abbrev pub stream_puts : {W : Type 0} → StreamSink W → ℕ
stream_puts s = s.log.puts

abbrev pub stream_faults : {W : Type 0} → StreamSink W → ℕ
stream_faults s = s.faults

-- a put took a front of the piece, all of it where it is done, and what the stream tells that it holds grew by just this front
pub record Sends (old new : List ℕ) (told_old told_new : Option (List ℕ)) (piece : List ℕ) (result : Put) : Type 0 where
  pub front : List ℕ
  pub is_front : IsPrefix front piece
  pub whole : result ≡ put.Done → front ≡ piece
  pub taken : new ≡ old ++ front
  pub stream : Gains told_old told_new front

abbrev pub source_reader : {R : Type 0} {g : _} → StreamSource R g → R
source_reader s = s.reader

-- the bytes that were read and not given yet
abbrev pub source_held : {R : Type 0} {g : _} → StreamSource R g → List ℕ
source_held s = take s.held s.buffer.items

abbrev pub source_faults : {R : Type 0} {g : _} → StreamSource R g → ℕ
source_faults s = s.faults

-- whether a read has come to the reader's end
abbrev pub source_ended : {R : Type 0} {g : _} → StreamSource R g → Bool
source_ended s = s.ended

-- the bytes that it gave; it has ended where the reader has and none are held
abbrev pub stream_past : List ℕ → Bool → ℕ → Past
stream_past given ended held = record { given = given; ended = ended && nat_eq held 0 }

abbrev pub source_past : {R : Type 0} {g : _} → StreamSource R g → Past
source_past s = stream_past s.log.bytes s.ended s.held

-- how often the system has failed
abbrev pub folder_faults : {R F D : Type 0} → FolderFiles R F D → ℕ
folder_faults f = f.faults

-- what it gave so far
abbrev pub folder_fetches : {R F D : Type 0} → FolderFiles R F D → List Fetched
folder_fetches f = f.fetches.items

-- what was done with the blocks of a file so far
abbrev pub swap_history : {R F D : Type 0} → FileSwap R F D → List Accessed
swap_history s = s.noted.history.items

-- which blocks it was asked for
abbrev pub swap_asked : {R F D : Type 0} → FileSwap R F D → List ℕ
swap_asked s = asked_for s.asked.items

abbrev pub swap_faults : {R F D : Type 0} → FileSwap R F D → ℕ
swap_faults s = s.faults

-- its file, once it is open
abbrev pub swap_file : {R F D : Type 0} → FileSwap R F D → Option F
swap_file s = s.file

-- the blocks of its file that it has in memory
abbrev pub swap_window : {R F D : Type 0} → FileSwap R F D → Window
swap_window s = s.window
