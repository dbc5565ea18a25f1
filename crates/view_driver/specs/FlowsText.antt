-- The flows of a move as they are told.
use Rattle.std.specs.Prelude.{ℕ, ◌-◌, ◌^◌, ◌==◌, if◌then◌else◌, nat_le, min, Option, None, Some, List, [], ◌∷◌, ◌++◌, length, take, drop, codes, sum_by}
use Rattle.std.specs.List.{flat_map}
use Rattle.std.specs.Fmt.{decimal}
use Rattle.rule_text.specs.Canonical.{spaced_text, protocol_word}
use Rattle.rule_text.specs.Address6Text.{address6_text}
use Rattle.state_texts.specs.StateTexts.{flow_text}
use Rattle.report_flows.specs.declared.flow.Flow6.{Flow6}
use Rattle.report_flows.specs.declared.flow.AnyFlow.{AnyFlow}
use Rattle.report_flows.specs.declared.flow.AnyFlow.TheVariants.{Four, Six}
use Rattle.report_flows.specs.declared.flow_counts.FlowSpan.{FlowSpan}
use Rattle.view_driver.specs.ColumnsText.{spaces, number_text}

-- a flow of IPv6: protocol, source and its port, destination and its port, each behind a space, as one of IPv4 is told
abbrev pub flow6_text : Flow6 → List ℕ
flow6_text flow =
    spaced_text (protocol_word flow.protocol
    ∷ address6_text flow.source.0 ∷ decimal flow.source_port
    ∷ address6_text flow.destination.0 ∷ decimal flow.destination_port ∷ [])

-- a flow of either version, or that the records have none
unfoldable pub any_flow_text : Option AnyFlow → List ℕ
any_flow_text None = codes " no flow"
any_flow_text (Some (Four flow)) = flow_text flow
any_flow_text (Some (Six flow)) = flow6_text flow

-- the numbers of a flow below those of its move: its records, the first and the last of them; the capture's column is empty
unfoldable pub flow_numbers : FlowSpan → List ℕ
flow_numbers told = number_text told.span.records ++ (spaces 9 ++ (number_text told.span.first ++ (number_text told.span.last ++ codes "   ")))

-- the line of a flow
unfoldable pub flow_line : FlowSpan → List ℕ
flow_line told = flow_numbers told ++ (any_flow_text told.flow ++ codes "\n")

-- how many records some flows have
abbrev pub flow_records : List FlowSpan → ℕ
flow_records flows = min (sum_by (λ told. told.span.records) flows) (2 ^ 64 - 1)

-- how many flows there are besides those that were told, and how many records they have
unfoldable pub rest_line : List FlowSpan → List ℕ
rest_line flows = spaces 36 ++ (codes "    and " ++ (decimal (length flows) ++ (codes " flows more with " ++ (decimal (flow_records flows) ++ codes " records\n"))))

-- the same, where there are some
unfoldable pub rest_text : List FlowSpan → List ℕ
rest_text flows = if length flows == 0 then [] else rest_line flows

-- how many flows of so many are told: all where only one would be left out, else 10
unfoldable pub told_count : ℕ → ℕ
told_count count = if nat_le count 11 then count else 10

-- the flows of a move, a line each, and what is told of the rest
unfoldable pub flows_text : List FlowSpan → List ℕ
flows_text flows = flat_map flow_line (take (told_count (length flows)) flows) ++ rest_text (drop (told_count (length flows)) flows)
