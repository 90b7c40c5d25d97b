use Rattle.std.proofs.Common.{◌≡◌, ◌∙◌, ◌++◌, ℕ, List, codes, length, ap, refl, append_assoc}
use Rattle.std.specs.String.{string_bytes}
use Rattle.ff_prime.specs.Number.{number_of}
use Rattle.ff_text.specs.Lists.{equation_lines, first_entry_text, heading}
use Rattle.ff_text.proofs.lists.print_made.Goals as goal

regroup : (a b d : List ℕ) → a ++ (b ++ d) ≡ a ++ b ++ d
regroup a b d = simp append_assoc refl

pub returns : goal.returns
returns c =
    let entries = c.args.list.now.entries in
    let lines = equation_lines (number_of c.args.k.now) c.args.first.now c.args.second.now in
    let count = heading (codes "isomorphisms") (length entries) in
    ap (λ v. v.items) c.into_bytes.ensures.value ∙ c.in_ok-text.ensures.ok
    ∙ ap (λ t. t ++ (string_bytes c.in_ok-count.count ++ string_bytes c.in_ok-entry.entry))
    c.in_ok-equations.ensures
    ∙ ap (λ t. lines ++ (t ++ string_bytes c.in_ok-entry.entry)) c.in_ok-count.ensures
    ∙ ap (λ t. lines ++ (count ++ t)) c.in_ok-entry.ensures
    ∙ regroup lines count (first_entry_text entries)
