use Rattle.std.proofs.Common.{refl}
use Rattle.o2_dynlink.proofs.laws.without_a_shim_linking_is_plain.Goals as goal

pub returns : goal.returns
returns c = record {
  none = λ ms. refl;
  ordinal = λ ms bases ordinals name n. refl;
  called = λ ms bases name text. refl;
  reach = λ m l. refl;
}
