-- For inner functions: what is wrong with a line, as a refusal.
use Rattle.lines.specs.declared.RuleFault.{RuleFault}
use Rattle.lines.specs.declared.TokenFault.{TokenFault}
use Rattle.sheets.specs.declared.Fault.{Fault}

abbrev pub rule_fault : RuleFault → Fault
rule_fault RuleFault.Form = Fault.RuleForm
rule_fault RuleFault.Range = Fault.RuleRange
rule_fault RuleFault.Unfit = Fault.RuleLay
rule_fault RuleFault.Reversed = Fault.RuleReversed

abbrev pub token_fault : TokenFault → Fault
token_fault TokenFault.Form = Fault.TokenForm
token_fault TokenFault.Range = Fault.TokenRange
token_fault TokenFault.Width = Fault.TokenWidth
