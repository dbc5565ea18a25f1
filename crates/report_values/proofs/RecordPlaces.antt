-- Entries at places among the kinds that differ, with one more behind them.
use Rattle.std.proofs.Common.{◌≡◌, ℕ, ◌<◌, List, [], ◌∷◌, ◌++◌, length, refl, sym, ap, ◌∙◌, get_or, subst, arith}
use Rattle.std.specs.Prelude.{All}
use Rattle.std.proofs.lemmas.List.{map-append, get_or_append_left, get_or_push, length_push}
use Rattle.std.proofs.lemmas.List.Elements.{All-head, All-tail, All-push, All-weaker}
use Rattle.eval_engine.specs.declared.docket_entry.DocketEntry.{DocketEntry}
use Rattle.eval_engine.specs.declared.docket_entry.DocketEntry.TheVariants.{Other}
use Rattle.report_values.specs.Records.{entries_at, StandsAt}

-- kinds behind the others change no entry
pub kinds_more : (kinds : List DocketEntry) (kind : DocketEntry) (places : List ℕ) → All (λ place. place < length kinds) places
    → entries_at (kinds ++ kind ∷ []) places ≡ entries_at kinds places
kinds_more kinds kind [] within = refl
kinds_more kinds kind (place ∷ places) within =
    let here = get_or_append_left kinds (kind ∷ []) Other place (All-head (λ place. place < length kinds) place places within) in
    ap (λ entry. entry ∷ entries_at (kinds ++ kind ∷ []) places) here
    ∙ ap (λ entries. get_or kinds place Other ∷ entries) (kinds_more kinds kind places (All-tail (λ place. place < length kinds) place places within))

-- and all places stay within them
pub within_more : (kinds : List DocketEntry) (kind : DocketEntry) (places : List ℕ) → All (λ place. place < length kinds) places
    → All (λ place. place < length (kinds ++ kind ∷ [])) places
within_more kinds kind places within =
    All-weaker (λ place. place < length kinds) (λ place. place < length (kinds ++ kind ∷ []))
    (λ place less. omega (arith, length_push kinds kind)) places within

-- one place more is one entry more
pub places_more : (kinds : List DocketEntry) (places : List ℕ) (place : ℕ) (entry : DocketEntry) → get_or kinds place Other ≡ entry
    → entries_at kinds (places ++ place ∷ []) ≡ entries_at kinds places ++ entry ∷ []
places_more kinds places place entry is =
    map-append (λ place. get_or kinds place Other) places (place ∷ []) ∙ ap (λ e. entries_at kinds places ++ e ∷ []) is

-- one record more, whose entry stands among the kinds
pub known_more : (kinds held : List DocketEntry) (places news : List ℕ) (place : ℕ) (entry : DocketEntry) (whole : List DocketEntry)
    → held ≡ kinds → StandsAt held place entry → news ≡ places ++ place ∷ [] → entries_at kinds places ≡ whole
    → entries_at kinds news ≡ whole ++ entry ∷ []
known_more kinds held places news place entry whole same stands more is =
    ap (entries_at kinds) more
    ∙ places_more kinds places place entry (ap (λ (ks : List DocketEntry). get_or ks place Other) (sym same) ∙ stands.is)
    ∙ ap (λ es. es ++ entry ∷ []) is

-- one record more, whose entry is a kind of its own
pub new_more : (kinds held : List DocketEntry) (places news : List ℕ) (place : ℕ) (entry : DocketEntry) (whole : List DocketEntry)
    → All (λ place. place < length kinds) places → held ≡ kinds ++ entry ∷ [] → place ≡ length kinds → news ≡ places ++ place ∷ []
    → entries_at kinds places ≡ whole → entries_at held news ≡ whole ++ entry ∷ []
new_more kinds held places news place entry whole within grown at more is =
    ap (λ ks. entries_at ks news) grown ∙ ap (entries_at (kinds ++ entry ∷ [])) more
    ∙ places_more (kinds ++ entry ∷ []) places place entry (get_or_push kinds entry Other place (sym at))
    ∙ ap (λ es. es ++ entry ∷ []) (kinds_more kinds entry places within ∙ is)

-- and all places stay within the kinds
pub known_within : (kinds held : List DocketEntry) (places news : List ℕ) (place : ℕ) (entry : DocketEntry)
    → All (λ place. place < length kinds) places → held ≡ kinds → StandsAt held place entry → news ≡ places ++ place ∷ []
    → All (λ place. place < length kinds) news
known_within kinds held places news place entry within same stands more =
    subst (All (λ place. place < length kinds)) (sym more)
    (All-push (λ place. place < length kinds) places place within (omega (arith, stands.within, ap length same)))

pub new_within : (kinds held : List DocketEntry) (places news : List ℕ) (place : ℕ) (entry : DocketEntry)
    → All (λ place. place < length kinds) places → held ≡ kinds ++ entry ∷ [] → place ≡ length kinds → news ≡ places ++ place ∷ []
    → All (λ place. place < length held) news
new_within kinds held places news place entry within grown at more =
    subst (λ (ks : List DocketEntry). All (λ place. place < length ks) news) (sym grown)
    (subst (All (λ place. place < length (kinds ++ entry ∷ []))) (sym more)
    (All-push (λ place. place < length (kinds ++ entry ∷ [])) places place (within_more kinds entry places within)
    (omega (arith, at, length_push kinds entry))))
