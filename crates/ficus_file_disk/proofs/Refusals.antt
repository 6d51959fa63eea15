-- An error behind further calls.
use Rattle.std.proofs.Common.{◌≡◌, List, [], ◌∷◌, ◌++◌, Result, Ok, Err, OnErr, sym, ◌∙◌, ap}
use Rattle.std.proofs.lemmas.List.{append_assoc}
use Rattle.ficus_file_disk.specs.Told.{Told, AreRefused, Refused}

pub refused_after : (first calls second third : List Told) → second ≡ first ++ calls → AreRefused second third
    → AreRefused first third
refused_after first calls second third before (asked, is) = (
  calls ++ asked,
  is
      ∙ ap (λ (told : List Told). told ++ (asked ++ Refused ∷ [])) before
      ∙ append_assoc first calls (asked ++ Refused ∷ [])
      ∙ ap (λ (more : List Told). first ++ more) (sym (append_assoc calls asked (Refused ∷ []))),
)

pub on_err : {T E P : Type 0} (result : Result T E) → P → OnErr result P
on_err (Ok value) p = tt
on_err (Err error) p = p
