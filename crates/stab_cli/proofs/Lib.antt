mod WarningLaws
