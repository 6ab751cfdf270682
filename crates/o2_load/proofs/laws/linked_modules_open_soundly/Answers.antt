use Rattle.o2_load.proofs.Fits.{linked_starts_fit}
use Rattle.o2_load.proofs.Apart.{linked_apart}
use Rattle.o2_load.proofs.Overs.{linked_starts_over}
use Rattle.o2_load.proofs.Openings.{linked_opening_sound, linked_opening_told}
use Rattle.o2_load.proofs.laws.linked_modules_open_soundly.Goals as goal

pub returns : goal.returns
returns c = record { fit = linked_starts_fit; over = linked_starts_over; apart = linked_apart; sound = linked_opening_sound; told = linked_opening_told }
