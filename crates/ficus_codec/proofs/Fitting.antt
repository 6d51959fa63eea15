-- What holds of each row that is lent holds of the row.
use Rattle.std.proofs.Common.{All, Bor, List, map, subst, sym, ◌≡◌, ◌<◌}
use Rattle.std.proofs.lemmas.List.{get_or-map, length-map}

pub fit_each : {X : Type 0} (P : X → Type 0) (rows : List X) (lent : List (Bor X)) → map (λ (row : Bor X). row.now) lent ≡ rows
    → All P rows → All (λ (row : Bor X). P row.now) lent
fit_each P rows lent is all = λ k row within.
    subst P (get_or-map (λ (row : Bor _). row.now) lent k row row.now within)
    (subst (All P) (sym is) all k row.now (subst (λ n. k < n) (sym (length-map lent (λ (row : Bor _). row.now))) within))
