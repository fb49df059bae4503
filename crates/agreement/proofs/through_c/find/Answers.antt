use Rattle.agreement.proofs.InWordsLaws.{found_in_words}
use Rattle.agreement.proofs.through_c.find.Goals as goal

pub returns : goal.returns
returns c =
    let done = c.fontarelga_findings in
    let owed = found_in_words _ _ _ _ _ _ done.ensures.answer done.ensures.table in record { returned = owed.0; table = owed.1 }
