-- The equality of flows that is derived is that of the definition.
use Rattle.std.proofs.Common.{◌≡◌, Option, None, Some, refl}
use Rattle.std.specs.Option.{option_eq}
use Rattle.report_flows.specs.contracts.flow.AnyFlowPartialEq.TheImpl.{eq-value}
use Rattle.report_flows.specs.declared.flow.AnyFlow.{AnyFlow}
use Rattle.report_flows.specs.declared.flow.AnyFlow.TheVariants.{Four, Six}
use Rattle.report_flows.specs.Flows.{flow_eq, same_flow}

derived : (a b : AnyFlow) → eq-value.it a b ≡ flow_eq a b
derived (Four a) (Four b) = refl
derived (Four a) (Six b) = refl
derived (Six a) (Four b) = refl
derived (Six a) (Six b) = refl

derived_same : (a b : Option AnyFlow) → option_eq eq-value.it a b ≡ same_flow a b
derived_same None None = refl
derived_same None (Some b) = refl
derived_same (Some a) None = refl
derived_same (Some a) (Some b) = derived a b

-- the derived equality is the definition's
pub derived_is : option_eq eq-value.it ≡ same_flow
derived_is = λ i a b. derived_same a b i
