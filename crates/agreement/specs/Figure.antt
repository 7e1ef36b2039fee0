-- Figure 2 of source document 003, line by line, for either team; steps and crashes as in source document 000.
--
--    5   R_A ← v                            16   R_B ← v
--    6   q ← O                              17   q ← O
--    7   if q = q0 then                     18   if q = q0 then
--    8     apply op_i to O                  19     if |B| = 1 and R_A ≠ ⊥ then
--    9     q ← O                            20       return R_A
--   10   end if                             21     else
--   11   if q ∈ Q_A then return R_A         22       apply op_i to O
--   12   else return R_B                    23       q ← O
--   13   end if                             24     end if
--   14 end DECIDE                           25   end if
--                                           26   if q ∈ Q_A then return R_A
--                                           27   else return R_B
--                                           28   end if
--                                           29 end DECIDE
-- Assumes nothing.
use Rattle.std.specs.Prelude.{ℕ, Bool, false, cond, List, [], ◌∷◌, eqb, ltb}
use Rattle.std.proofs.Math.Option.{Option, none, some}
use Rattle.agreement.specs.Machine.{Act, step, restart, restart_all, changed_at}

-- "Two non-empty teams A and B."
pub data Team : Type 0 where
  team_a team_b : Team

-- What a register or a local variable holds; `none` is ⊥.
abbrev pub Value : Type 0
Value = Option ℕ

-- The lines from which a process goes on: the first of its code, and those after a line that touches a shared object.
pub data Line : Type 0 where
  line5 line6 line7 line9 line11 : Line
  line16 line17 line18 line20 line22 line23 line26 : Line

-- The lines that touch a shared object.
pub data Access : Type 0 where
  at5 at6 at8 at9 at11 at12 : Access
  at16 at17 at19 at20 at22 at23 at26 at27 : Access

-- A process: the line from which it goes on, and its local q; or the register that it returned, and the value.
pub data Process : Type 0 where
  running : Line → Value → Process
  returned : Team → Value → Process

-- "Object O of type T, initially in state q0. Registers R_A and R_B, initially ⊥."
pub record Objects : Type 0 where
  pub O : ℕ
  pub RA : Value
  pub RB : Value

-- A process returned a value.
pub record Return : Type 0 where
  pub process : ℕ
  pub value : Value

-- "The local state of each process as well as the state of each shared object", and what the processes returned, the latest first.
pub record System : Type 0 where
  pub objects : Objects
  pub process : ℕ → Process
  pub returns : List Return

-- What an atomic operation leaves.
pub record Done : Type 0 where
  pub objects : Objects
  pub process : Process

-- A test of a local variable.
abbrev pub test : (ℕ → Bool) → Value → Bool
test f none = false
test f (some q) = f q

-- The first line of either team's code.
abbrev pub first_line : Team → Line
first_line team_a = line5
first_line team_b = line16

-- Line 19: "if |B| = 1 and R_A ≠ ⊥ then" line 20, else line 22. The register has been read.
unfoldable pub after_line19 : Value → Value → Process
after_line19 none q = running line22 q
after_line19 (some r) q = running line20 q

-- The atomic operation at a line, by the process with operation op that was called with v.
unfoldable pub access : (ℕ → ℕ) → ℕ → Access → Value → Objects → Done
access op v at5 q M = record { objects = record { O = M.O; RA = some v; RB = M.RB }; process = running line6 q }
access op v at6 q M = record { objects = M; process = running line7 (some M.O) }
access op v at8 q M = record { objects = record { O = op M.O; RA = M.RA; RB = M.RB }; process = running line9 q }
access op v at9 q M = record { objects = M; process = running line11 (some M.O) }
access op v at11 q M = record { objects = M; process = returned team_a M.RA }
access op v at12 q M = record { objects = M; process = returned team_b M.RB }
access op v at16 q M = record { objects = record { O = M.O; RA = M.RA; RB = some v }; process = running line17 q }
access op v at17 q M = record { objects = M; process = running line18 (some M.O) }
access op v at19 q M = record { objects = M; process = after_line19 M.RA q }
access op v at20 q M = record { objects = M; process = returned team_a M.RA }
access op v at22 q M = record { objects = record { O = op M.O; RA = M.RA; RB = M.RB }; process = running line23 q }
access op v at23 q M = record { objects = M; process = running line26 (some M.O) }
access op v at26 q M = record { objects = M; process = returned team_a M.RA }
access op v at27 q M = record { objects = M; process = returned team_b M.RB }

-- What was returned is noted.
unfoldable pub with_return : ℕ → Process → List Return → List Return
with_return k (running l q) returns = returns
with_return k (returned X r) returns = record { process = k; value = r } ∷ returns

-- What the algorithm is given: the state q0, a test for Q_A, whether |B| = 1, how many processes there are, and the team and the operation
-- of each.
pub record Setting : Type 0 where
  pub q0 : ℕ
  pub in_qa : ℕ → Bool
  pub lone_b : Bool
  pub processes : ℕ
  pub team : ℕ → Team
  pub op : ℕ → ℕ → ℕ

module _ (G : Setting) where
  -- "Bounded local computation": the tests between a line and the next that touches a shared object.
  unfoldable pub ahead : Line → Value → Access
  ahead line5 q = at5
  ahead line6 q = at6
  ahead line7 q = cond (test (λ s. eqb s G.q0) q) at8 (cond (test G.in_qa q) at11 at12)
  ahead line9 q = at9
  ahead line11 q = cond (test G.in_qa q) at11 at12
  ahead line16 q = at16
  ahead line17 q = at17
  ahead line18 q = cond (test (λ s. eqb s G.q0) q) (cond G.lone_b at19 at22) (cond (test G.in_qa q) at26 at27)
  ahead line20 q = at20
  ahead line22 q = at22
  ahead line23 q = at23
  ahead line26 q = cond (test G.in_qa q) at26 at27

  -- A step "entails bounded local computation followed by an atomic operation on one shared object". Who has returned takes none.
  unfoldable pub moved_from : ℕ → ℕ → Process → System → System
  moved_from k v (running l q) F =
      let d = access (G.op k) v (ahead l q) q F.objects in
      record { objects = d.objects; process = changed_at F.process k d.process; returns = with_return k d.process F.returns }
  moved_from k v (returned X r) F = F

  -- A process at the beginning of its code, "its local variables hold their initial values".
  abbrev pub begun : ℕ → Process
  begun k = running (first_line (G.team k)) none

  -- An ordinary step of one process, and a crash step: "leaves the state of all shared objects unchanged, and resets the local state of
  -- one or more processes back to the initial state"; of a single process, or of all.
  unfoldable pub moved : Act → System → System
  moved (step k v) F = cond (ltb k G.processes) (moved_from k v (F.process k) F) F
  moved (restart k) F = record { objects = F.objects; process = changed_at F.process k (begun k); returns = F.returns }
  moved restart_all F = record { objects = F.objects; process = begun; returns = F.returns }

  -- "An execution is a sequence of steps."
  unfoldable pub ran : List Act → System → System
  ran [] F = F
  ran (a ∷ acts) F = ran acts (moved a F)

  -- "The initial state of the system."
  abbrev pub initial : System
  initial = record { objects = record { O = G.q0; RA = none; RB = none }; process = begun; returns = [] }
