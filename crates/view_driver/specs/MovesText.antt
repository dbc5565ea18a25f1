-- What moved and what stayed between two reports as it is told.
use Rattle.std.specs.Prelude.{ℕ, ◌-◌, ◌==◌, if◌then◌else◌, max, Option, None, Some, Vec, List, [], ◌∷◌, ◌++◌, length, codes, slice_index_or}
use Rattle.std.specs.List.{flat_map}
use Rattle.std.specs.Fmt.{decimal}
use Rattle.report_moves.specs.declared.moves.Move.{Move}
use Rattle.report_flows.specs.declared.flow_counts.FlowSpan.{FlowSpan}
use Rattle.view_driver.specs.ColumnsText.{spaces, number_text}
use Rattle.view_driver.specs.FlowsText.{flows_text}
use Rattle.view_driver.specs.MovesTold.{records_told}
use Rattle.view_driver.specs.declared.compared.Compared.{Compared}

-- the numbers of a move, each in its column: its records, its capture, the first and the last record
unfoldable pub numbers_text : Move → List ℕ
numbers_text move =
    number_text move.span.records ++ (number_text move.capture ++ (number_text move.span.first ++ (number_text move.span.last ++ codes "  ")))

-- the text of the outcome of that number
abbrev pub outcome_at : List (List ℕ) → ℕ → List ℕ
outcome_at texts number = slice_index_or texts number []

-- how wide the column of the outcomes then is: as the longest of them, and at least as its heading `then`
unfoldable pub width_of : List (List ℕ) → List Move → ℕ
width_of texts [] = 4
width_of texts (move ∷ moves) = max (length (outcome_at texts move.was)) (width_of texts moves)

-- an outcome then, filled with spaces up to the column's width
unfoldable pub filled_text : ℕ → List ℕ → List ℕ
filled_text width text = text ++ spaces (width - length text)

-- the line of a move: its numbers, its outcome then in a column so wide, and its outcome now
unfoldable pub moved_line : List (List ℕ) → ℕ → Move → List ℕ
moved_line texts width move =
    numbers_text move ++ (filled_text width (outcome_at texts move.was) ++ (codes "  " ++ (outcome_at texts move.is ++ codes "\n")))

-- a move, and below its line its flows
unfoldable pub moved_text : List (List ℕ) → ℕ → Move → List FlowSpan → List ℕ
moved_text texts width move flows = moved_line texts width move ++ flows_text flows

-- the moves in their order, each with the flows in its place, and with none where no flows stand there
unfoldable pub moved_texts : List (List ℕ) → ℕ → List Move → List (List FlowSpan) → List ℕ
moved_texts texts width [] flows = []
moved_texts texts width (move ∷ moves) [] = moved_text texts width move [] ++ moved_texts texts width moves []
moved_texts texts width (move ∷ moves) (told ∷ flows) = moved_text texts width move told ++ moved_texts texts width moves flows

-- what stands above the moves, with the outcomes then in a column so wide
unfoldable pub moved_heading : ℕ → List ℕ
moved_heading width = codes "\n  records  capture    first     last  then" ++ (spaces (width - 4) ++ codes "  now\n")

-- moves below their heading, with the outcomes then in a column that fits them
unfoldable pub moved_table : List (List ℕ) → List Move → List (List FlowSpan) → List ℕ
moved_table texts moves flows = moved_heading (width_of texts moves) ++ moved_texts texts (width_of texts moves) moves flows

-- what moved, where something did
unfoldable pub moved_section : List (List ℕ) → List Move → List (List FlowSpan) → List ℕ
moved_section texts moves flows = if length moves == 0 then [] else moved_table texts moves flows

-- the line of what stayed: its numbers and its outcome
unfoldable pub stayed_line : List (List ℕ) → Move → List ℕ
stayed_line texts move = numbers_text move ++ (outcome_at texts move.was ++ codes "\n")

-- what stayed, below its heading
unfoldable pub stayed_table : List (List ℕ) → List Move → List ℕ
stayed_table texts moves = codes "\n  records  capture    first     last  then and now\n" ++ flat_map (stayed_line texts) moves

-- what stayed, where something did
unfoldable pub stayed_section : List (List ℕ) → List Move → List ℕ
stayed_section texts moves = if length moves == 0 then [] else stayed_table texts moves

-- a count behind its word, a line
abbrev pub count_line : List ℕ → ℕ → List ℕ
count_line word count = word ++ (decimal count ++ codes "\n")

-- how many records moved, how many of them to another verdict, and how many stayed
unfoldable pub counts_text : ℕ → ℕ → ℕ → List ℕ
counts_text moved others stayed =
    count_line (codes "moved ") moved ++ (count_line (codes "moved to another verdict ") others ++ count_line (codes "stayed ") stayed)

-- the flows of the moves, where they are told
abbrev pub flows_told : {A : Type 0} → Option (Vec (List FlowSpan) A) → List (List FlowSpan)
flows_told None = []
flows_told (Some flows) = flows.items

-- what moved and what stayed
unfoldable pub compared_text : Compared → List ℕ
compared_text compared =
    counts_text (records_told compared.moves.moved.items) compared.other_verdicts (records_told compared.moves.stayed.items)
    ++ (moved_section compared.texts.items compared.moves.moved.items (flows_told compared.flows) ++ stayed_section compared.texts.items compared.moves.stayed.items)
