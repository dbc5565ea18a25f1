-- The lines of a script, byte after byte.
use Rattle.std.proofs.Common.{◌≡◌, ℕ, ◌==◌, if◌then◌else◌, List, [], ◌∷◌, refl, sym, ap, inl, inr}
use Rattle.std.specs.List.{slice_split, onto_first}
use Rattle.std.proofs.lemmas.Bool.{cases_Bool}
use Rattle.fw_command.specs.Lines.{lines_of, without_empty_end}
use Rattle.fw_command.specs.Laws.{LinesGoByBytes}

abbrev split : List ℕ → List (List ℕ)
split bytes = slice_split (λ byte. byte == 10) bytes

-- there is a first piece
record HasFirst (pieces : List (List ℕ)) : Type 0 where
  first : List ℕ
  others : List (List ℕ)
  is : pieces ≡ first ∷ others

onto : (b : ℕ) (pieces : List (List ℕ)) → HasFirst pieces → HasFirst (onto_first b pieces)
onto b pieces some = record { first = b ∷ some.first; others = some.others; is = ap (onto_first b) some.is }

split_first : (bytes : List ℕ) → HasFirst (split bytes)
split_first [] = record { first = []; others = []; is = refl }
split_first (b ∷ bytes) = elim (cases_Bool (b == 10)) [
  | inl is ↦ record { first = []; others = split bytes; is = rw is refl }
  | inr isn't ↦ rw isn't (onto b (split bytes) (split_first bytes))
]

end_behind : (first : List ℕ) (others : List (List ℕ)) → without_empty_end ([] ∷ first ∷ others) ≡ [] ∷ without_empty_end (first ∷ others)
end_behind first others = refl

onto_end : (b : ℕ) (first : List ℕ) (others : List (List ℕ)) → onto_first b (without_empty_end (first ∷ others)) ≡ without_empty_end (onto_first b (first ∷ others))
onto_end b [] [] = refl
onto_end b [] (second ∷ others) = refl
onto_end b (c ∷ first) others = refl

-- no bytes have no line
pub lines_of-nil : lines_of [] ≡ []
unfolding lines_of
lines_of-nil = refl

-- a byte 10 ends a line, and every other byte stands before the first line of those behind it
pub lines_of-cons : (byte : ℕ) (bytes : List ℕ) → lines_of (byte ∷ bytes) ≡ (if byte == 10 then [] ∷ lines_of bytes else onto_first byte (lines_of bytes))
unfolding lines_of
lines_of-cons byte bytes =
    let some = split_first bytes in
    elim (cases_Bool (byte == 10)) [
      | inl is ↦ rw (is, some.is) (end_behind some.first some.others)
      | inr isn't ↦ rw (isn't, some.is) (sym (onto_end byte some.first some.others))
    ]

-- the same as the law says it
pub lines_go_by_bytes : LinesGoByBytes
lines_go_by_bytes = record { none = lines_of-nil; more = lines_of-cons }
