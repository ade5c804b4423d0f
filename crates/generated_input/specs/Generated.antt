-- Two tables of generated rows, and a catalogue and a script over them.
use Rattle.std.specs.Prelude.{ℕ, ◌+◌, ◌*◌, ◌/◌, List, [], ◌++◌, codes, decimal, zero, suc}
use Rattle.generated_input.specs.Draws.{draw, state_after}

abbrev pub catalog_text : List ℕ
catalog_text =
    codes "relation DEPT from \"dept.csv\" (dno = int4, dname = text, floor = int4)\n"
    ++ codes "relation EMP from \"emp.csv\" (eno = int4, name = text, dno = int4, sal = int4) index eno\n"

abbrev pub script_text : List ℕ
script_text =
    codes "retrieve (e.name, d.dname) from e in EMP, d in DEPT where e.dno = d.dno and e.sal > 9000 \\g\n"
    ++ codes "retrieve unique (d.floor) from e in EMP, d in DEPT where e.dno = d.dno and e.eno < 100 sort by floor using > \\g\n"

-- a department for each hundred of employees, and one more
abbrev pub departments : ℕ → ℕ
departments employees = 1 + employees / 100

-- a row of the departments takes a draw behind this state: its floor
abbrev pub department_line : ℕ → ℕ → List ℕ
department_line state number =
    decimal number ++ codes ",d" ++ decimal number ++ codes "," ++ decimal (draw state 0 10)
    ++ codes "\n"

-- the rows of the departments below a number, in order
abbrev pub department_lines : ℕ → ℕ → List ℕ
department_lines first zero = []
department_lines first (suc number) =
    department_lines first number ++ department_line (state_after first number) number

-- a row of the employees takes two draws behind this state: its department and its salary
abbrev pub employee_line : ℕ → ℕ → ℕ → List ℕ
employee_line state depts number =
    decimal number ++ codes ",e" ++ decimal number ++ codes "," ++ decimal (draw state 0 depts)
    ++ codes "," ++ decimal (draw state 1 10000) ++ codes "\n"

-- the rows of the employees below a number, in order
abbrev pub employee_lines : ℕ → ℕ → ℕ → List ℕ
employee_lines first depts zero = []
employee_lines first depts (suc number) =
    employee_lines first depts number ++ employee_line (state_after first (2 * number)) depts number

abbrev pub departments_text : ℕ → ℕ → List ℕ
departments_text first depts = codes "dno,dname,floor\n" ++ department_lines first depts

abbrev pub employees_text : ℕ → ℕ → ℕ → List ℕ
employees_text first depts count = codes "eno,name,dno,sal\n" ++ employee_lines first depts count
