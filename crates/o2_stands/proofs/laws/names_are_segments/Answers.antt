use Rattle.o2_stands.proofs.Rooms.{load_is, load_least, room_at_least, room_at_most, room_is, room_least, room_most, swap_is}
use Rattle.o2_stands.proofs.laws.names_are_segments.Goals as goal

pub returns-clause-room : goal.returns-clause-room
returns-clause-room c = λ p ps names behind next reserved list need lawful stands says. room_is p ps names next reserved lawful stands behind list need says

pub returns-clause-live : goal.returns-clause-live
returns-clause-live c = λ p ps names behind next reserved lawful stands none. load_is p ps names next reserved lawful stands behind none

pub returns-clause-swap : goal.returns-clause-swap
returns-clause-swap c = λ p w lawful stands. swap_is p w.processes w.names w.next_name w.reserved lawful stands

pub returns-clause-room_at_least : goal.returns-clause-room_at_least
returns-clause-room_at_least c = λ p ps names behind next reserved list need lawful stands among. room_least p ps names next reserved lawful stands behind list need among

pub returns-clause-room_at_most : goal.returns-clause-room_at_most
returns-clause-room_at_most c = λ p ps names behind next reserved list lawful stands here. room_most p ps names next reserved lawful stands behind list here

pub returns-clause-live_at_least : goal.returns-clause-live_at_least
returns-clause-live_at_least c = λ p ps names behind next reserved lawful stands. load_least p ps names next reserved lawful stands behind

pub returns-clause-weighs_at_least : goal.returns-clause-weighs_at_least
returns-clause-weighs_at_least c = λ p ps names behind next reserved list weight lawful stands w. room_at_least p ps names next reserved lawful stands behind list weight w

pub returns-clause-weighs_at_most : goal.returns-clause-weighs_at_most
returns-clause-weighs_at_most c = λ p ps names behind next reserved list weight lawful stands w. room_at_most p ps names next reserved lawful stands behind list weight w
