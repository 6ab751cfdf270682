use Rattle.std.proofs.Common.{refl, ◌∙◌, arith}
use Rattle.o2_place.specs.Layout.{len_of, one_of}
use Rattle.o2_place.proofs.Sums.{over-ranges, sum-ones}
use Rattle.o2_place.proofs.RangeLemmas.{found_from, AreLaid-apart, IsFree-apart, IsFree-past, IsFree-within, used-le}
use Rattle.o2_place.proofs.places.Places.law.Goals as goal

pub returns-clause-within : goal.returns-clause-within
returns-clause-within c = rw (← c.self.view_is) (λ k at len h. (found_from c.self.inside.ranges.items 0 c.self.inside.size k at len c.self.invariant.0.layout.laid h).2)

pub returns-clause-positive : goal.returns-clause-positive
returns-clause-positive c = rw (← c.self.view_is) (λ k at len h. (found_from c.self.inside.ranges.items 0 c.self.inside.size k at len c.self.invariant.0.layout.laid h).1)

pub returns-clause-apart : goal.returns-clause-apart
returns-clause-apart c = rw (← c.self.view_is) (λ i j a l b m n p q. AreLaid-apart c.self.inside.ranges.items 0 c.self.inside.size i j a l b m c.self.invariant.0.layout.laid n p q)

pub returns-clause-free : goal.returns-clause-free
returns-clause-free c = rw (← c.self.view_is) (λ at len k b m f h. IsFree-apart c.self.inside.ranges.items c.self.inside.size at len k b m f h)

pub returns-clause-end : goal.returns-clause-end
returns-clause-end c = rw (← c.self.view_is) (λ at len f. IsFree-within c.self.inside.ranges.items c.self.inside.size at len f)

pub returns-clause-past : goal.returns-clause-past
returns-clause-past c = rw (← c.self.view_is) (λ at len h l. IsFree-past c.self.inside.ranges.items 0 c.self.inside.size at len c.self.invariant.0.layout.laid h l)

pub returns-clause-sum : goal.returns-clause-sum
returns-clause-sum c = rw (← c.self.view_is) (λ n m. over-ranges len_of refl c.self.inside.ranges.items n c.self.invariant.0.layout.apart (λ k at len q. let b = c.self.invariant.0.layout.below k at len q in omega (arith, b, m)))

pub returns-clause-number : goal.returns-clause-number
returns-clause-number c = rw (← c.self.view_is) (λ n m. over-ranges one_of refl c.self.inside.ranges.items n c.self.invariant.0.layout.apart (λ k at len q. let b = c.self.invariant.0.layout.below k at len q in omega (arith, b, m)) ∙ sum-ones c.self.inside.ranges.items)

pub returns-clause-room : goal.returns-clause-room
returns-clause-room c = rw (← c.self.view_is) (let b = used-le c.self.inside.ranges.items 0 c.self.inside.size c.self.invariant.0.layout.laid in omega (arith, b))
