-- What a call on segments asks for, by its arguments: each call is one row.
use Rattle.std.specs.Prelude.{ℕ, []}
use Rattle.o2_isa.specs.declared.cpu.Cpu.{Cpu}
use Rattle.o2_world.specs.HugeRulings.{huge_allocation, huge_reallocation, huge_shift}
use Rattle.o2_world.specs.Known.{Known}
use Rattle.o2_world.specs.Rulings.{Ruling, aliasing, allocation, freeing, grants, locking, reallocation, sizing, unlocking}
use Rattle.o2_world.specs.SharedNames.{name_by}
use Rattle.o2_world.specs.SharedRulings.{getting, giving, naming, sharing}
use Rattle.o2_gate.specs.declared.requests.SegmentArguments.{SegmentArguments}
use Rattle.o2_gate.specs.declared.requests.SegmentArguments.TheVariants as call
use Rattle.o2_gate.specs.declared.requests.HugeArguments.TheVariants as huge
use Rattle.o2_gate.specs.declared.requests.SharedArguments.TheVariants as shared
use Rattle.o2_gate.specs.Texts.{text_of}

-- the number of its service; error, value and changes by what is known, the process and its registers
pub record Request : Type 0 where
  pub service : ℕ
  pub ruling : Known → (number : ℕ) → Cpu → Ruling

abbrev pub request : (service : ℕ) → (Known → ℕ → Cpu → Ruling) → Request
request service ruling = record { service = service; ruling = ruling }

abbrev pub request_of : SegmentArguments → Request
request_of (call.Alloc size flags) = request 5 (λ k n c. allocation k n size flags)
request_of (call.Realloc size selector) = request 6 (λ k n c. reallocation k n size selector)
request_of (call.Free selector) = request 7 (λ k n c. freeing k n selector c)
request_of (call.Size selector) = request 8 (λ k n c. sizing k n selector)
request_of (call.Lock selector) = request 9 (λ k n c. locking k n selector)
request_of (call.Unlock selector) = request 10 (λ k n c. unlocking k n selector)
request_of (call.Alias selector) = request 11 (λ k n c. aliasing k n selector)
request_of (call.Shared (shared.Name size t)) = request 12 (λ k n c. naming k n size (name_by (text_of t)))
request_of (call.Shared (shared.Share t)) = request 13 (λ k n c. sharing k n (name_by (text_of t)))
request_of (call.Shared (shared.Give selector pid)) = request 14 (λ k n c. giving k n selector pid)
request_of (call.Shared (shared.Get selector)) = request 15 (λ k n c. getting k n selector)
request_of (call.Huge (huge.Alloc segs part most flags)) = request 16 (λ k n c. huge_allocation k n segs part most flags)
request_of (call.Huge (huge.Realloc segs part selector)) = request 17 (λ k n c. huge_reallocation k n segs part selector c)
request_of (call.Huge huge.Shift) = request 18 (λ k n c. grants huge_shift [])

abbrev pub ruling_of : SegmentArguments → Known → (number : ℕ) → Cpu → Ruling
ruling_of a = (request_of a).ruling
