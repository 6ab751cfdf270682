use Rattle.std.proofs.Common.{ℕ, List, [], ap, refl, sym, ◌∙◌}
use Rattle.std.specs.Prelude.{slice_index}
use Rattle.o2_isa.specs.declared.cpu.Cpu.{Cpu}
use Rattle.o2_world.specs.Calls.{aliasing_by, allocation_by, avail_by, getting_by, giving_by, huge_allocation_by, locking_by, naming_by, reallocation_by, row_of}
use Rattle.o2_world.specs.Calls.{sharing_by, shift_by, sizing_by, unlocking_by}
use Rattle.o2_world.specs.Calls.{clearing_semaphore, reading, requesting_semaphore, setting_semaphore, telling_pid, waiting_for_semaphore}
use Rattle.o2_world.specs.Outcomes.{by_ruling}
use Rattle.o2_world.specs.Rulings.{freeing, grants}
use Rattle.o2_world.specs.HugeRulings.{huge_reallocation, huge_shift}
use Rattle.o2_world_parts.specs.declared.changing.Edit.{Edit}
use Rattle.o2_world_parts.specs.Edits.{changes_of}
use Rattle.o2_boundless.specs.Outcomes.{slots_by}
use Rattle.o2_boundless.specs.Shown.{before_call, known_by}
use Rattle.o2_boundless.proofs.Heaps.{ok_more}
use Rattle.o2_boundless.proofs.HeapRows.{by_heap_service}
use Rattle.o2_boundless.proofs.Serving.{by_service, of_service}
use Rattle.o2_boundless.proofs.world.World.outcome.Goals as goal

pub returns-in-2 : goal.returns-in-2
unfolding row_of
returns-in-2 c =
    let b = before_call c.args.self.now c.args.n c.args.process.now in
    let a = slice_index c.args.a.now in
    of_service c.args.service 2 b a c.telling_pid.result (telling_pid b a) c.in-2.is refl (c.telling_pid.ensures b a refl)

pub returns-in-3 : goal.returns-in-3
unfolding row_of
returns-in-3 c =
    let b = before_call c.args.self.now c.args.n c.args.process.now in
    let a = slice_index c.args.a.now in
    of_service c.args.service 3 b a c.reading.result (reading b a) c.in-3.is refl (c.reading.ensures b (sym c.left.ensures))

pub returns-in-5 : goal.returns-in-5
unfolding row_of
returns-in-5 c =
    let b = before_call c.args.self.now c.args.n c.args.process.now in
    let a = slice_index c.args.a.now in
    by_service c.args.service 5 c.args.slots.now b a c.ruled.result (allocation_by b a) c.in-5.is c.requires.slots refl
    (c.ruled.ensures b (allocation_by b a) c.allocation.ensures)

pub returns-in-6 : goal.returns-in-6
unfolding row_of
returns-in-6 c =
    let b = before_call c.args.self.now c.args.n c.args.process.now in
    let a = slice_index c.args.a.now in
    by_service c.args.service 6 c.args.slots.now b a c.ruled-in-6.result (reallocation_by b a) c.in-6.is c.requires.slots refl
    (c.ruled-in-6.ensures b (reallocation_by b a) c.reallocation.ensures)

pub returns-in-7 : goal.returns-in-7
unfolding row_of
returns-in-7 c =
    let b = before_call c.args.self.now c.args.n c.args.process.now in
    let a = slice_index c.args.a.now in
    by_service c.args.service 7 c.args.slots.now b a c.ruled-in-7.result (freeing (known_by c.args.self.now) c.args.n (a 0) c.registers-cpu.result) c.in-7.is c.requires.slots
    (ap (λ (k : Cpu). by_ruling (slots_by (row_of 7)) b (freeing (known_by c.args.self.now) c.args.n (a 0) k)) c.registers-cpu.ensures)
    (c.ruled-in-7.ensures b (freeing (known_by c.args.self.now) c.args.n (a 0) c.registers-cpu.result) c.freeing.ensures)

pub returns-in-8 : goal.returns-in-8
unfolding row_of
returns-in-8 c =
    let b = before_call c.args.self.now c.args.n c.args.process.now in
    let a = slice_index c.args.a.now in
    by_service c.args.service 8 c.args.slots.now b a c.ruled-in-8.result (sizing_by b a) c.in-8.is c.requires.slots refl
    (c.ruled-in-8.ensures b (sizing_by b a) c.sizing.ensures)

pub returns-in-9 : goal.returns-in-9
unfolding row_of
returns-in-9 c =
    let b = before_call c.args.self.now c.args.n c.args.process.now in
    let a = slice_index c.args.a.now in
    by_service c.args.service 9 c.args.slots.now b a c.ruled-in-9.result (locking_by b a) c.in-9.is c.requires.slots refl
    (c.ruled-in-9.ensures b (locking_by b a) c.locking.ensures)

pub returns-in-10 : goal.returns-in-10
unfolding row_of
returns-in-10 c =
    let b = before_call c.args.self.now c.args.n c.args.process.now in
    let a = slice_index c.args.a.now in
    by_service c.args.service 10 c.args.slots.now b a c.ruled-in-10.result (unlocking_by b a) c.in-10.is c.requires.slots refl
    (c.ruled-in-10.ensures b (unlocking_by b a) c.unlocking.ensures)

pub returns-in-11 : goal.returns-in-11
unfolding row_of
returns-in-11 c =
    let b = before_call c.args.self.now c.args.n c.args.process.now in
    let a = slice_index c.args.a.now in
    by_service c.args.service 11 c.args.slots.now b a c.ruled-in-11.result (aliasing_by b a) c.in-11.is c.requires.slots refl
    (c.ruled-in-11.ensures b (aliasing_by b a) c.aliasing.ensures)

pub returns-in-12 : goal.returns-in-12
unfolding row_of
returns-in-12 c =
    let b = before_call c.args.self.now c.args.n c.args.process.now in
    let a = slice_index c.args.a.now in
    by_service c.args.service 12 c.args.slots.now b a c.ruled-in-12.result (naming_by b a) c.in-12.is c.requires.slots refl
    (c.ruled-in-12.ensures b (naming_by b a) c.naming_by.ensures)

pub returns-in-13 : goal.returns-in-13
unfolding row_of
returns-in-13 c =
    let b = before_call c.args.self.now c.args.n c.args.process.now in
    let a = slice_index c.args.a.now in
    by_service c.args.service 13 c.args.slots.now b a c.ruled-in-13.result (sharing_by b a) c.in-13.is c.requires.slots refl
    (c.ruled-in-13.ensures b (sharing_by b a) c.sharing_by.ensures)

pub returns-in-14 : goal.returns-in-14
unfolding row_of
returns-in-14 c =
    let b = before_call c.args.self.now c.args.n c.args.process.now in
    let a = slice_index c.args.a.now in
    by_service c.args.service 14 c.args.slots.now b a c.ruled-in-14.result (giving_by b a) c.in-14.is c.requires.slots refl
    (c.ruled-in-14.ensures b (giving_by b a) c.giving.ensures)

pub returns-in-15 : goal.returns-in-15
unfolding row_of
returns-in-15 c =
    let b = before_call c.args.self.now c.args.n c.args.process.now in
    let a = slice_index c.args.a.now in
    by_service c.args.service 15 c.args.slots.now b a c.ruled-in-15.result (getting_by b a) c.in-15.is c.requires.slots refl
    (c.ruled-in-15.ensures b (getting_by b a) c.getting.ensures)

pub returns-in-16 : goal.returns-in-16
unfolding row_of
returns-in-16 c =
    let b = before_call c.args.self.now c.args.n c.args.process.now in
    let a = slice_index c.args.a.now in
    by_service c.args.service 16 c.args.slots.now b a c.ruled-in-16.result (huge_allocation_by b a) c.in-16.is c.requires.slots refl
    (c.ruled-in-16.ensures b (huge_allocation_by b a) c.huge_allocation-verdict.ensures)

pub returns-in-17 : goal.returns-in-17
unfolding row_of
returns-in-17 c =
    let b = before_call c.args.self.now c.args.n c.args.process.now in
    let a = slice_index c.args.a.now in
    by_service c.args.service 17 c.args.slots.now b a c.ruled-in-17.result (huge_reallocation (known_by c.args.self.now) c.args.n (a 2) (a 1) (a 0) c.registers-cpu.result) c.in-17.is c.requires.slots
    (ap (λ (k : Cpu). by_ruling (slots_by (row_of 17)) b (huge_reallocation (known_by c.args.self.now) c.args.n (a 2) (a 1) (a 0) k)) c.registers-cpu.ensures)
    (c.ruled-in-17.ensures b (huge_reallocation (known_by c.args.self.now) c.args.n (a 2) (a 1) (a 0) c.registers-cpu.result) c.huge_reallocation-verdict.ensures)

pub returns-in-18 : goal.returns-in-18
unfolding row_of
returns-in-18 c =
    let b = before_call c.args.self.now c.args.n c.args.process.now in
    let a = slice_index c.args.a.now in
    by_service c.args.service 18 c.args.slots.now b a c.ruled-in-18.result (shift_by b a) c.in-18.is c.requires.slots refl
    (c.ruled-in-18.ensures b (shift_by b a) (c.grants.ensures ∙ ap (λ (es : List Edit). grants huge_shift (changes_of es)) c.new.ensures.items))

pub returns-in-19 : goal.returns-in-19
unfolding row_of
returns-in-19 c =
    let b = before_call c.args.self.now c.args.n c.args.process.now in
    let a = slice_index c.args.a.now in
    by_service c.args.service 19 c.args.slots.now b a c.ruled-in-19.result (avail_by b a) c.in-19.is c.requires.slots refl
    (c.ruled-in-19.ensures b (avail_by b a) (c.grants-in-19.ensures ∙ (ap (λ (es : List Edit). grants c.available.result (changes_of es)) c.new-in-19.ensures.items ∙ ap (λ (n : ℕ). grants n []) c.available.ensures)))

pub returns-in-20 : goal.returns-in-20
unfolding row_of
returns-in-20 c =
    let b = before_call c.args.self.now c.args.n c.args.process.now in
    let a = slice_index c.args.a.now in
    by_heap_service c.args.service 20 c.args.slots.now b a c.on_heap.result (a 2) c.in-20.is c.requires.slots refl c.on_heap.ensures

pub returns-in-21 : goal.returns-in-21
unfolding row_of
returns-in-21 c =
    let b = before_call c.args.self.now c.args.n c.args.process.now in
    let a = slice_index c.args.a.now in
    by_heap_service c.args.service 21 c.args.slots.now b a c.on_heap-in-21.result (a 3) c.in-21.is c.requires.slots refl c.on_heap-in-21.ensures

pub returns-in-22 : goal.returns-in-22
unfolding row_of
returns-in-22 c =
    let b = before_call c.args.self.now c.args.n c.args.process.now in
    let a = slice_index c.args.a.now in
    by_heap_service c.args.service 22 c.args.slots.now b a c.on_heap-in-22.result (a 2) c.in-22.is c.requires.slots refl c.on_heap-in-22.ensures

pub returns-in-25 : goal.returns-in-25
unfolding row_of
returns-in-25 c =
    let b = before_call c.args.self.now c.args.n c.args.process.now in
    let a = slice_index c.args.a.now in
    of_service c.args.service 25 b a c.requesting.result (requesting_semaphore b a) c.in-25.is refl c.requesting.ensures

pub returns-in-27 : goal.returns-in-27
unfolding row_of
returns-in-27 c =
    let b = before_call c.args.self.now c.args.n c.args.process.now in
    let a = slice_index c.args.a.now in
    of_service c.args.service 27 b a c.waiting.result (waiting_for_semaphore b a) c.in-27.is refl c.waiting.ensures

pub returns-in-26 : goal.returns-in-26
unfolding row_of
returns-in-26 c =
    let b = before_call c.args.self.now c.args.n c.args.process.now in
    let a = slice_index c.args.a.now in
    of_service c.args.service 26 b a c.clearing.result (clearing_semaphore b a) c.in-26.is refl
    (ok_more c.clearing.result (λ x e. e b a) c.clearing.ensures)

pub returns-in-28 : goal.returns-in-28
unfolding row_of
returns-in-28 c =
    let b = before_call c.args.self.now c.args.n c.args.process.now in
    let a = slice_index c.args.a.now in
    of_service c.args.service 28 b a c.setting.result (setting_semaphore b a) c.in-28.is refl
    (ok_more c.setting.result (λ x e. e b a) c.setting.ensures)
