use Rattle.std.proofs.Common.{rules, ℕ, List, ◌≡◌, ◌∙◌, ap, refl, sym, subst}
use Rattle.std.specs.Prelude.{All, replicate}
use Rattle.rm_table.proofs.Base.{all_values}
use Rattle.rm_table.proofs.Resting.{opens_copies, first_of-replicate}
use Rattle.rm_lock.specs.Tokens.{TokenState}
use Rattle.lock_bench.specs.declared.edition.Edition.{Edition}
use Rattle.lock_bench.specs.declared.book.Book.{Book}
use Rattle.lock_bench.proofs.reader.open_lock.Goals as goal

pub open-requires-clause-opens : goal.open-requires-clause-opens
open-requires-clause-opens c =
    let e : Edition = record { number = 1 } in
    opens_copies _ c.args.processors e c.new.result c.in_ok-editions.editions.items c.requires.some c.in_ok-editions.ensures.copies (sym (ap (λ b. b.number) c.new.ensures)) (sym (ap (λ b. b.number) c.new.ensures))

pub returns-clause-processors : goal.returns-clause-processors
returns-clause-processors c =
    let e : Edition = record { number = 1 } in
    let o = c.in_ok-open.ensures.opened e (rw c.in_ok-editions.ensures.copies (first_of-replicate e c.args.processors c.requires.some)) in
    subst (λ (ts : List (TokenState Edition Book ℕ ℕ ℕ)). All (λ p. p.table_id ≡ c.in_ok-open.field-0.lock) ts) (sym o.processors) (all_values (λ (p : TokenState Edition Book ℕ ℕ ℕ). p.table_id ≡ c.in_ok-open.field-0.lock) _ 1 _ (λ k low high. refl))

pub returns-clause-operator : goal.returns-clause-operator
returns-clause-operator c =
    let e : Edition = record { number = 1 } in
    let o = c.in_ok-open.ensures.opened e (rw c.in_ok-editions.ensures.copies (first_of-replicate e c.args.processors c.requires.some)) in
    (o.lock, ap (λ v. v.count) o.knows ∙ search rules)
