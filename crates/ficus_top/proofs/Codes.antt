-- What the code of a run says of how it ended.
use Rattle.std.proofs.Common.{◌≡◌, ◌≢◌, ◌⊎◌, Result, Ok, Err, refl, inl, inr, arith}
use Rattle.std.specs.Prelude.{⊤, IfErr, IsErrOf, OnOk}
use Rattle.ficus_top.specs.Ending.{IsAnswering, IsIdle, IsUntouched}
use Rattle.ficus_top.specs.Codes.{IsCode, IsIdleCode, IsUntouchedCode, NamesReplica}
use Rattle.ficus_top.specs.Status.{code_of, line_of, replica_of}
use Rattle.ficus_top.specs.declared.fault.Fault.{Fault}
use Rattle.ficus_top.specs.declared.fault.Fault.TheVariants.{Words, Reading, Storing, Answering}
use Rattle.ficus_top.specs.declared.fault.ReadingFault.TheVariants.{BadLine, Memory, Source, TooLong}
use Rattle.ficus_loop.specs.declared.fault.AnsweringFault.TheVariants.{Memory as NoMemory, Sink}
use Rattle.ficus_words.specs.declared.fault.WordsFault.TheVariants as words
use Rattle.ficus_opening.specs.declared.fault.WorldFault.TheVariants as world

-- a code with which nothing was done is none of the others
zero_idle : IsIdleCode 0 → ⊥
zero_idle code = grind arith

three_idle : IsIdleCode 3 → ⊥
three_idle code = grind arith

five_idle : IsIdleCode 5 → ⊥
five_idle code = grind arith

-- a code with which no disk was touched is none of the others
zero_touched : IsUntouchedCode 0 → ⊥
zero_touched code = grind arith

three_touched : IsUntouchedCode 3 → ⊥
three_touched code = grind arith

five_touched : IsUntouchedCode 5 → ⊥
five_touched code = grind arith

six_touched : IsUntouchedCode 6 → ⊥
six_touched code = grind arith

seven_touched : IsUntouchedCode 7 → ⊥
seven_touched code = grind arith

nine_touched : IsUntouchedCode 9 → ⊥
nine_touched code = grind arith

module _ {Done : Type 0} where
  pub done_of_code : {P : Type 0} (ended : Result Done Fault) → code_of ended ≡ 0 → OnOk ended P → P
  done_of_code (Ok done) code holds = holds
  done_of_code (Err (Words words.Memory)) code holds = absurd (cc)
  done_of_code (Err (Reading Memory)) code holds = absurd (cc)
  done_of_code (Err (Storing world.Memory)) code holds = absurd (cc)
  done_of_code (Err (Answering Sink)) code holds = absurd (cc)
  done_of_code other code holds = absurd (cc)

  pub usage_of_code : (ended : Result Done Fault) → code_of ended ≡ 1 → IsErrOf ended (Words words.Usage)
  usage_of_code (Err (Words words.Usage)) code = refl
  usage_of_code (Err (Reading Memory)) code = absurd (cc)
  usage_of_code (Err (Storing world.Memory)) code = absurd (cc)
  usage_of_code (Err (Answering Sink)) code = absurd (cc)
  usage_of_code other code = absurd (cc)

  pub bad_line_of_code : (ended : Result Done Fault) → code_of ended ≡ 2
      → IsErrOf ended (Reading (BadLine (line_of ended)))
  bad_line_of_code (Err (Reading (BadLine line))) code = refl
  bad_line_of_code (Err (Storing world.Memory)) code = absurd (cc)
  bad_line_of_code (Err (Answering Sink)) code = absurd (cc)
  bad_line_of_code (Err (Words words.Memory)) code = absurd (cc)
  bad_line_of_code other code = absurd (cc)

  pub source_of_code : (ended : Result Done Fault) → code_of ended ≡ 4 → IsErrOf ended (Reading Source)
  source_of_code (Err (Reading Source)) code = refl
  source_of_code (Err (Storing world.Memory)) code = absurd (cc)
  source_of_code (Err (Answering Sink)) code = absurd (cc)
  source_of_code (Err (Words words.Memory)) code = absurd (cc)
  source_of_code other code = absurd (cc)

  pub sink_of_code : (ended : Result Done Fault) → code_of ended ≡ 5 → IsErrOf ended (Answering Sink)
  sink_of_code (Err (Answering Sink)) code = refl
  sink_of_code (Err (Reading Memory)) code = absurd (cc)
  sink_of_code (Err (Storing world.Memory)) code = absurd (cc)
  sink_of_code (Err (Words words.Memory)) code = absurd (cc)
  sink_of_code other code = absurd (cc)

  pub store_of_code : (ended : Result Done Fault) → code_of ended ≡ 6
      → IsErrOf ended (Storing (world.Store (replica_of ended)))
  store_of_code (Err (Storing (world.Store r))) code = refl
  store_of_code (Err (Reading Memory)) code = absurd (cc)
  store_of_code (Err (Answering Sink)) code = absurd (cc)
  store_of_code (Err (Words words.Memory)) code = absurd (cc)
  store_of_code other code = absurd (cc)

  pub image_of_code : (ended : Result Done Fault) → code_of ended ≡ 7
      → IsErrOf ended (Storing (world.Image (replica_of ended)))
  image_of_code (Err (Storing (world.Image r))) code = refl
  image_of_code (Err (Reading Memory)) code = absurd (cc)
  image_of_code (Err (Answering Sink)) code = absurd (cc)
  image_of_code (Err (Words words.Memory)) code = absurd (cc)
  image_of_code other code = absurd (cc)

  pub occupied_of_code : (ended : Result Done Fault) → code_of ended ≡ 9
      → IsErrOf ended (Storing (world.Occupied (replica_of ended)))
  occupied_of_code (Err (Storing (world.Occupied r))) code = refl
  occupied_of_code (Err (Reading Memory)) code = absurd (cc)
  occupied_of_code (Err (Answering Sink)) code = absurd (cc)
  occupied_of_code (Err (Words words.Memory)) code = absurd (cc)
  occupied_of_code other code = absurd (cc)

  -- there is no other code
  pub is_code : (ended : Result Done Fault) → IsCode (code_of ended)
  is_code (Ok done) = inl refl
  is_code (Err (Words words.Usage)) = inr (inl refl)
  is_code (Err (Words words.Memory)) = inr (inr (inr (inl refl)))
  is_code (Err (Reading (BadLine line))) = inr (inr (inl refl))
  is_code (Err (Reading Memory)) = inr (inr (inr (inl refl)))
  is_code (Err (Reading Source)) = inr (inr (inr (inr (inl refl))))
  is_code (Err (Reading TooLong)) = inr (inr (inr (inr (inr (inr (inr (inr (inl refl))))))))
  is_code (Err (Storing world.Memory)) = inr (inr (inr (inl refl)))
  is_code (Err (Storing (world.Store r))) = inr (inr (inr (inr (inr (inr (inl refl))))))
  is_code (Err (Storing (world.Image r))) = inr (inr (inr (inr (inr (inr (inr (inl refl)))))))
  is_code (Err (Storing (world.Occupied r))) = inr (inr (inr (inr (inr (inr (inr (inr (inr refl))))))))
  is_code (Err (Answering NoMemory)) = inr (inr (inr (inl refl)))
  is_code (Err (Answering Sink)) = inr (inr (inr (inr (inr (inl refl)))))

  -- no replica is named but with codes 6, 7 and 9
  pub replica_of_code : (ended : Result Done Fault) → (NamesReplica (code_of ended) → ⊥) → replica_of ended ≡ 0
  replica_of_code (Err (Storing (world.Store r))) none = absurd (none (inl refl))
  replica_of_code (Err (Storing (world.Image r))) none = absurd (none (inr (inl refl)))
  replica_of_code (Err (Storing (world.Occupied r))) none = absurd (none (inr (inr refl)))
  replica_of_code (Err (Storing world.Memory)) none = refl
  replica_of_code other none = refl

  -- no line is named but with code 2
  pub line_of_code : (ended : Result Done Fault) → code_of ended ≢ 2 → line_of ended ≡ 0
  line_of_code (Err (Reading (BadLine line))) code = absurd (code refl)
  line_of_code (Err (Answering Sink)) code = refl
  line_of_code other code = refl

  pub idle_of_code : {P : Type 0} (ended : Result Done Fault) → IsIdleCode (code_of ended)
      → IfErr ended (λ fault. IsIdle fault → P) → P
  idle_of_code (Ok done) code holds = absurd (zero_idle code)
  idle_of_code (Err (Words words.Memory)) code holds = absurd (three_idle code)
  idle_of_code (Err (Reading Memory)) code holds = absurd (three_idle code)
  idle_of_code (Err (Storing world.Memory)) code holds = absurd (three_idle code)
  idle_of_code (Err (Answering NoMemory)) code holds = absurd (three_idle code)
  idle_of_code (Err (Answering Sink)) code holds = absurd (five_idle code)
  idle_of_code other code holds = holds tt

  pub untouched_of_code : {P : Type 0} (ended : Result Done Fault) → IsUntouchedCode (code_of ended)
      → IfErr ended (λ fault. IsUntouched fault → P) → P
  untouched_of_code (Err (Words fault)) code holds = holds tt
  untouched_of_code (Err (Reading fault)) code holds = holds tt
  untouched_of_code (Ok done) code holds = absurd (zero_touched code)
  untouched_of_code (Err (Storing world.Memory)) code holds = absurd (three_touched code)
  untouched_of_code (Err (Storing (world.Store r))) code holds = absurd (six_touched code)
  untouched_of_code (Err (Storing (world.Image r))) code holds = absurd (seven_touched code)
  untouched_of_code (Err (Storing (world.Occupied r))) code holds = absurd (nine_touched code)
  untouched_of_code (Err (Answering NoMemory)) code holds = absurd (three_touched code)
  untouched_of_code (Err (Answering Sink)) code holds = absurd (five_touched code)

  -- what is known of a run by its fault, of which what was put of it is known by what may be
  pub prefix_of_code : {same : Type 0} (front : Type 0 → Type 0)
      → ((may other : Type 0) → (may → other) → front may → front other) → (ended : Result Done Fault)
      → IfErr ended (λ fault. IsIdle fault → same)
      → IfErr ended (λ fault. IsAnswering fault → front (fault ≡ Answering NoMemory))
      → (code_of ended ≡ 5 → front ⊥) × (code_of ended ≡ 3 → same ⊎ front ⊤)
  prefix_of_code front further (Err (Words words.Memory)) idle put = (λ five. absurd (cc), λ three. inl (idle tt))
  prefix_of_code front further (Err (Reading Memory)) idle put = (λ five. absurd (cc), λ three. inl (idle tt))
  prefix_of_code front further (Err (Storing world.Memory)) idle put = (λ five. absurd (cc), λ three. inl (idle tt))
  prefix_of_code front further (Err (Answering NoMemory)) idle put =
      (λ five. absurd (cc), λ three. inr (further _ ⊤ (λ is. tt) (put tt)))
  prefix_of_code front further (Err (Answering Sink)) idle put =
      (λ five. further _ ⊥ (λ is. cc) (put tt), λ three. absurd (cc))
  prefix_of_code front further other idle put = (λ five. absurd (cc), λ three. absurd (cc))
